-- Rows in another order: each row is sound by itself, and all of them have room together.
use Rattle.std.proofs.Common.{◌≡◌, ℕ, zero, suc, ◌≤◌, ◌==◌, ◌↔◌, Bool, true, false, cond, nat_le, List, []}
use Rattle.std.proofs.Common.{◌∷◌, ◌++◌, length}
use Rattle.std.proofs.Common.{map, sum_by, arith, zip, Option, Some, None, Result, Ok, Err, All, refl, ap}
use Rattle.std.proofs.Common.{◌∙◌, subst, append_assoc}
use Rattle.std.specs.List.{filter_map, cons_option, slice_get}
use Rattle.std.specs.List.Sorted.{IsPermutation}
use Rattle.std.specs.Option.{option_or, unwrap_or}
use Rattle.std.proofs.lemmas.Bool.{eqb-true, leb-true, le-leb}
use Rattle.std.proofs.lemmas.List.Elements.{All-nil, All-cons, All-head, All-tail}
use Rattle.std.proofs.lemmas.List.Sorted.{All-permutation, sum_by-IsPermutation}
use Rattle.std.proofs.lemmas.List.Sums.{sum_by-append}
use Rattle.plain_ballots.specs.declared.limits.TheConstants.{MOST_BALLOTS}
use Rattle.ballot_table.specs.declared.column.Column.{Column}
use Rattle.ballot_table.specs.declared.column.Column.TheVariants as column
use Rattle.ballot_table.specs.declared.empty.Empty.{Empty}
use Rattle.ballot_table.specs.declared.empty.Empty.TheVariants.{Refuse, Keep, Drop}
use Rattle.ballot_table.specs.declared.table_kind.TableKind.{TableKind}
use Rattle.ballot_table.specs.declared.table_kind.TableKind.TheVariants.{TooManyBallots}
use Rattle.ballot_table.specs.Asked.{Asked}
use Rattle.ballot_table.specs.declared.fault.Fault.{Fault}
use Rattle.ballot_table.specs.Faults.{first_fault}
use Rattle.ballot_table.specs.Texts.{number}
use Rattle.ballot_table.specs.Cells.{Cell, Counts, as_cell, cell_of, counted, fault_one}
use Rattle.ballot_table.specs.Rows.{all_blank, weight_at, cells_of, empty_fault, length_fault, room_behind}
use Rattle.ballot_table.specs.Rows.{row_fault, weight_in}
use Rattle.ballot_table.proofs.BehindLemmas.{each}
use Rattle.ballot_table.proofs.FaultLemmas.{IsNothing, or_none}
use Rattle.ballot_table.proofs.WeightLemmas.{IsFine, all_fine, no_fault, weights, as_many_weights}

-- ---- numbers of ballots

abbrev AreWithin : ℕ → List ℕ → Type 0
AreWithin room numbers = All (λ k. k ≤ room) numbers

-- a weight's cell, judged
abbrev weighed : (room : ℕ) → Option ℕ → Option TableKind
weighed room n = fault_one (as_cell Counts (counted room n))

within_or : (k room : ℕ) (b : Bool) → nat_le k room ≡ b
    → fault_one (as_cell Counts (cond b (Ok k) (Err TooManyBallots))) ≡ None → k ≤ room
within_or k room true is fine = leb-true k room is
within_or k room false is fine = absurd (cc fine)

weight_within : (room : ℕ) (n : Option ℕ) → weighed room n ≡ None → unwrap_or n 0 ≤ room
weight_within room None fine = absurd (cc fine)
weight_within room (Some k) fine = within_or k room (nat_le k room) refl fine

weight_moved : (m n : ℕ) (weight : Option ℕ) → weighed m weight ≡ None → unwrap_or weight 0 ≤ n → weighed n weight ≡ None
weight_moved m n None fine few = absurd (cc fine)
weight_moved m n (Some k) fine few =
    ap (λ b. fault_one (as_cell Counts (cond b (Ok k) (Err TooManyBallots)))) (le-leb k n few)

one_more : (room : ℕ) (o : Option ℕ) (rest : List ℕ) → ((k : ℕ) → o ≡ Some k → k ≤ room) → AreWithin room rest
    → AreWithin room (cons_option o rest)
one_more room None rest few all = all
one_more room (Some k) rest few all = All-cons (λ k. k ≤ room) k rest (few k refl) all

one_less : (room : ℕ) (o : Option ℕ) (rest : List ℕ) → AreWithin room (cons_option o rest)
    → ((k : ℕ) → o ≡ Some k → k ≤ room) × AreWithin room rest
one_less room None rest all = ((λ k is. absurd (cc is)), all)
one_less room (Some k) rest all =
    ((λ l is. subst (λ j. j ≤ room) (cc is) (All-head (λ k. k ≤ room) k rest all)), All-tail (λ k. k ≤ room) k rest all)

-- ---- cells

module _ (asked : Asked) where
  abbrev Cellular : Type 0
  Cellular = Column × List ℕ

  abbrev cells : ℕ → List Cellular → List (Result Cell TableKind)
  cells room ps = map (λ (p : Cellular). cell_of asked room p.0 p.1) ps

  within : (room : ℕ) (p : Cellular) → IsFine (cell_of asked room p.0 p.1) → (k : ℕ) → weight_in p ≡ Some k → k ≤ room
  within room (column.Weight, text) fine k is = subst (λ j. j ≤ room) (cc is) (weight_within room (number text) fine)
  within room (column.PassedOver, text) fine k is = absurd (cc is)
  within room (column.Candidate c, text) fine k is = absurd (cc is)
  within room (column.Rank r, text) fine k is = absurd (cc is)
  within room (column.List, text) fine k is = absurd (cc is)

  moved : (m n : ℕ) (p : Cellular) → IsFine (cell_of asked m p.0 p.1) → ((k : ℕ) → weight_in p ≡ Some k → k ≤ n)
      → IsFine (cell_of asked n p.0 p.1)
  moved m n (column.Weight, text) fine few =
      weight_moved m n (number text) fine (few (unwrap_or (number text) 0) refl)
  moved m n (column.PassedOver, text) fine few = fine
  moved m n (column.Candidate c, text) fine few = fine
  moved m n (column.Rank r, text) fine few = fine
  moved m n (column.List, text) fine few = fine

  all_within : (room : ℕ) (ps : List Cellular) → All IsFine (cells room ps) → AreWithin room (filter_map weight_in ps)
  all_within room [] all = All-nil (λ k. k ≤ room)
  all_within room (p ∷ ps) all =
      let here = cell_of asked room p.0 p.1 in
      one_more room (weight_in p) (filter_map weight_in ps)
      (within room p (All-head IsFine here (cells room ps) all))
      (all_within room ps (All-tail IsFine here (cells room ps) all))

  all_moved : (m n : ℕ) (ps : List Cellular) → All IsFine (cells m ps) → AreWithin n (filter_map weight_in ps)
      → All IsFine (cells n ps)
  all_moved m n [] all few = All-nil IsFine
  all_moved m n (p ∷ ps) all few =
      let here = cell_of asked m p.0 p.1 in
      let parts = one_less n (weight_in p) (filter_map weight_in ps) few in
      All-cons IsFine (cell_of asked n p.0 p.1) (cells n ps)
      (moved m n p (All-head IsFine here (cells m ps) all) parts.0)
      (all_moved m n ps (All-tail IsFine here (cells m ps) all) parts.1)

-- the weight of blank texts is nought
blank_weights : (cols : List Column) (texts : List (List ℕ)) (room : ℕ) → all_blank texts ≡ true
    → AreWithin room (filter_map weight_in (zip cols texts))
blank_weights [] texts room blank = All-nil (λ k. k ≤ room)
blank_weights (c ∷ cols) [] room blank = All-nil (λ k. k ≤ room)
blank_weights (c ∷ cols) ((b ∷ bs) ∷ texts) room blank = absurd (cc blank)
blank_weights (column.Weight ∷ cols) ([] ∷ texts) room blank =
    All-cons (λ k. k ≤ room) 0 (filter_map weight_in (zip cols texts)) (omega arith) (blank_weights cols texts room blank)
blank_weights (column.PassedOver ∷ cols) ([] ∷ texts) room blank = blank_weights cols texts room blank
blank_weights (column.Candidate n ∷ cols) ([] ∷ texts) room blank = blank_weights cols texts room blank
blank_weights (column.Rank n ∷ cols) ([] ∷ texts) room blank = blank_weights cols texts room blank
blank_weights (column.List ∷ cols) ([] ∷ texts) room blank = blank_weights cols texts room blank

-- a fault of cells that is not there goes with them
moved_form : (empty : Empty) (blank : Bool) (here there : Option Fault) → (here ≡ None → there ≡ None)
    → cond blank (empty_fault empty here) here ≡ None → cond blank (empty_fault empty there) there ≡ None
moved_form Refuse true here there goes is = absurd (cc is)
moved_form Keep true here there goes is = goes is
moved_form Drop true here there goes is = refl
moved_form empty false here there goes is = goes is

-- ---- rows

module _ (asked : Asked) (empty : Empty) (cols : List Column) where
  abbrev form : ℕ → List (List ℕ) → Option Fault
  form room texts = row_fault asked empty room cols texts

  abbrev numbers : List (List ℕ) → List ℕ
  numbers texts = filter_map weight_in (zip cols texts)

  by_blank : (room : ℕ) (texts : List (List ℕ)) (blank : Bool) → all_blank texts ≡ blank
      → cond blank (empty_fault empty (first_fault (cells_of asked room cols texts)))
      (first_fault (cells_of asked room cols texts)) ≡ None
      → AreWithin room (numbers texts)
  by_blank room texts true blank is = blank_weights cols texts room blank
  by_blank room texts false blank is =
      all_within asked room (zip cols texts) (all_fine 1 (cells_of asked room cols texts) is)

  row_within : (room : ℕ) (texts : List (List ℕ)) → form room texts ≡ None → AreWithin room (numbers texts)
  row_within room texts is =
      let here = first_fault (cells_of asked room cols texts) in
      let both =
      or_none (length_fault (length texts) (length cols))
      (cond (all_blank texts) (empty_fault empty here) here) is in
      by_blank room texts (all_blank texts) refl both.1

  row_moved : (m n : ℕ) (texts : List (List ℕ)) → form m texts ≡ None → AreWithin n (numbers texts) → form n texts ≡ None
  row_moved m n texts is few =
      let here = first_fault (cells_of asked m cols texts) in
      let there = first_fault (cells_of asked n cols texts) in
      let both =
      or_none (length_fault (length texts) (length cols))
      (cond (all_blank texts) (empty_fault empty here) here) is in
      ap (λ o. option_or o (cond (all_blank texts) (empty_fault empty there) there)) both.0
      ∙ moved_form empty (all_blank texts) here there
      (λ none. no_fault 1 (cells_of asked n cols texts)
      (all_moved asked m n (zip cols texts) (all_fine 1 (cells_of asked m cols texts) none) few)) both.1

  unless_unequal : (fields : ℕ) (unequal : Fault) (b : Bool) → (fields == length cols) ≡ b
      → IsNothing (cond b None (Some unequal)) → fields ≡ length cols
  unless_unequal fields unequal true is none = eqb-true fields (length cols) is
  unless_unequal fields unequal false is none = absurd (cc none)

  long_enough : (fields : ℕ) → length_fault fields (length cols) ≡ None → fields ≡ length cols
  long_enough fields none = unless_unequal fields _ (fields == length cols) refl none

  -- a sound row has a weight for each column of it
  row_weights : (room : ℕ) (texts : List (List ℕ)) → form room texts ≡ None → length (numbers texts) ≡ weights cols
  row_weights room texts is =
      let here = first_fault (cells_of asked room cols texts) in
      let both =
      or_none (length_fault (length texts) (length cols))
      (cond (all_blank texts) (empty_fault empty here) here) is in
      as_many_weights cols texts (long_enough (length texts) both.0)

  -- with just one weight it is the number of ballots
  only_one : (ks : List ℕ) (room : ℕ) → length ks ≡ 1 → (AreWithin room ks) ↔ (unwrap_or (slice_get ks 0) 0 ≤ room)
  only_one [] room one = absurd (omega (arith, one))
  only_one (k ∷ []) room one =
      ((λ all. All-head (λ k. k ≤ room) k [] all), (λ few. All-cons (λ k. k ≤ room) k [] few (All-nil (λ k. k ≤ room))))
  only_one (k ∷ l ∷ ks) room one = absurd (omega (arith, one))

  none_within : (ks : List ℕ) (room : ℕ) → length ks ≡ 0 → AreWithin room ks
  none_within [] room none = All-nil (λ k. k ≤ room)
  none_within (k ∷ ks) room none = absurd (omega (arith, none))

  -- rows, each judged after those before it
  abbrev pub judged : (front rows : List (List (List ℕ))) → List (Option Fault)
  judged front rows = each (λ before texts. form (room_behind cols before) texts) front rows

  abbrev total : List (List (List ℕ)) → ℕ
  total rows = sum_by (weight_at cols) rows

  -- a row that is sound with some room
  IsSoundRow : List (List ℕ) → Type 0
  IsSoundRow texts = (room : ℕ) × (form room texts ≡ None)

  each_sound : (front rows : List (List (List ℕ))) → All IsNothing (judged front rows) → All IsSoundRow rows
  unfolding IsSoundRow
  each_sound front [] all = All-nil IsSoundRow
  each_sound front (texts ∷ rows) all =
      let here = form (room_behind cols front) texts in
      let more = judged (front ++ texts ∷ []) rows in
      All-cons IsSoundRow texts rows (room_behind cols front, All-head IsNothing here more all)
      (each_sound (front ++ texts ∷ []) rows (All-tail IsNothing here more all))

  -- without a column of the weight they are sound in any order
  sound_anywhere : weights cols ≡ 0 → (front rows : List (List (List ℕ))) → All IsSoundRow rows
      → All IsNothing (judged front rows)
  unfolding IsSoundRow
  sound_anywhere none front [] all = All-nil IsNothing
  sound_anywhere none front (texts ∷ rows) all =
      let here = All-head IsSoundRow texts rows all in
      let room = room_behind cols front in
      All-cons IsNothing (form room texts) (judged (front ++ texts ∷ []) rows)
      (row_moved here.0 room texts here.1 (none_within (numbers texts) room (row_weights here.0 texts here.1 ∙ none)))
      (sound_anywhere none (front ++ texts ∷ []) rows (All-tail IsSoundRow texts rows all))

  behind_one : (front rows : List (List (List ℕ))) (texts : List (List ℕ))
      → total ((front ++ texts ∷ []) ++ rows) ≡ total (front ++ texts ∷ rows)
  behind_one front rows texts = ap total (append_assoc front (texts ∷ []) rows)

  -- with one, sound rows have no more ballots than there may be
  have_room : weights cols ≡ 1 → (front rows : List (List (List ℕ))) → All IsNothing (judged front rows)
      → total front ≤ MOST_BALLOTS → total (front ++ rows) ≤ MOST_BALLOTS
  have_room one front [] all few = omega (arith, few, sum_by-append (weight_at cols) front [])
  have_room one front (texts ∷ rows) all few =
      let room = room_behind cols front in
      let more = judged (front ++ texts ∷ []) rows in
      let sound = All-head IsNothing (form room texts) more all in
      let here : weight_at cols texts ≤ room =
      (only_one (numbers texts) room (row_weights room texts sound ∙ one)).0 (row_within room texts sound) in
      let further : total (front ++ texts ∷ []) ≤ MOST_BALLOTS =
      omega (arith, few, here, sum_by-append (weight_at cols) front (texts ∷ [])) in
      omega (
        arith,
        behind_one front rows texts,
        have_room one (front ++ texts ∷ []) rows (All-tail IsNothing (form room texts) more all) further,
      )

  -- and where they have no more, they are sound
  sound_with_room : weights cols ≡ 1 → (front rows : List (List (List ℕ))) → All IsSoundRow rows
      → total (front ++ rows) ≤ MOST_BALLOTS → All IsNothing (judged front rows)
  unfolding IsSoundRow
  sound_with_room one front [] all few = All-nil IsNothing
  sound_with_room one front (texts ∷ rows) all few =
      let here = All-head IsSoundRow texts rows all in
      let room = room_behind cols front in
      let fits : weight_at cols texts ≤ room =
      omega (
        arith,
        few,
        behind_one front rows texts,
        sum_by-append (weight_at cols) (front ++ texts ∷ []) rows,
        sum_by-append (weight_at cols) front (texts ∷ []),
      ) in
      All-cons IsNothing (form room texts) (judged (front ++ texts ∷ []) rows)
      (row_moved here.0 room texts here.1
      ((only_one (numbers texts) room (row_weights here.0 texts here.1 ∙ one)).1 fits))
      (sound_with_room one (front ++ texts ∷ []) rows (All-tail IsSoundRow texts rows all)
      (omega (arith, few, behind_one front rows texts)))

  sound_moved : (n : ℕ) → weights cols ≡ n → n ≤ 1 → (one other : List (List (List ℕ))) → IsPermutation one other
      → All IsNothing (judged [] one) → All IsNothing (judged [] other)
  sound_moved zero none few one other moved all =
      sound_anywhere none [] other (All-permutation IsSoundRow one other moved (each_sound [] one all))
  sound_moved (suc zero) only few one other moved all =
      sound_with_room only [] other (All-permutation IsSoundRow one other moved (each_sound [] one all))
      (omega (arith, sum_by-IsPermutation (weight_at cols) one other moved, have_room only [] one all (omega arith)))
  sound_moved (suc (suc n)) only few one other moved all = absurd (omega (arith, few))

  -- Sound rows are sound in another order, with at most one column of the weight.
  pub sound_in_any_order : weights cols ≤ 1 → (one other : List (List (List ℕ))) → IsPermutation one other
      → All IsNothing (judged [] one) → All IsNothing (judged [] other)
  sound_in_any_order few one other moved all = sound_moved (weights cols) refl few one other moved all
