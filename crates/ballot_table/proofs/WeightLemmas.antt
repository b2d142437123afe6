-- A head without a fault has at most one column of the weight.
use Rattle.std.proofs.Common.{◌≡◌, ℕ, suc, ◌+◌, ◌≤◌, ◌||◌, ◌&&◌, not, eqb, Bool, true, false, cond, List, [], ◌∷◌, ◌++◌}
use Rattle.std.proofs.Common.{length, filter, arith}
use Rattle.std.proofs.Common.{Option, Some, None, Result, Ok, Err, All, refl, ap, sym, ◌∙◌, subst}
use Rattle.std.specs.List.{enumerate_from, filter_map, list_any, slice_get, zip}
use Rattle.std.specs.Option.{option_map_or}
use Rattle.std.specs.Str.{bytes_eq}
use Rattle.std.proofs.lemmas.List.Elements.{All-nil, All-cons, All-head, All-tail}
use Rattle.std.proofs.lemmas.List.Folds.{list_any-append}
use Rattle.std.proofs.lemmas.Slice.Eq.{bytes_eq-Decides}
use Rattle.ballot_table.specs.declared.column.Column.{Column}
use Rattle.ballot_table.specs.declared.column.Column.TheVariants as column
use Rattle.ballot_table.specs.declared.layout.Layout.{Layout}
use Rattle.ballot_table.specs.declared.layout.Layout.TheVariants as layout
use Rattle.ballot_table.specs.declared.table_kind.TableKind.{TableKind}
use Rattle.ballot_table.specs.declared.table_kind.TableKind.TheVariants.{BadColumns, HeadExpected, RepeatedColumn}
use Rattle.ballot_table.specs.Asked.{Asked}
use Rattle.ballot_table.specs.Cells.{fault_one}
use Rattle.ballot_table.specs.Faults.{fault_of, sound}
use Rattle.ballot_table.specs.Head.{are_chosen, chosen_column, column_of, heads_say_ranks, is_cell, labelled, next_column, rank_said, unless, unlabelled}
use Rattle.ballot_table.specs.Rows.{weight_in}
use Rattle.ballot_table.specs.Texts.{is_in, number_in}
use Rattle.ballot_table.proofs.BehindLemmas.{each}

-- ---- fields without a fault

abbrev pub IsFine : {X : Type 0} → Result X TableKind → Type 0
IsFine r = fault_one r ≡ None

pub all_fine : {X : Type 0} (from : ℕ) (fields : List (Result X TableKind))
    → slice_get (filter_map fault_of (enumerate_from from fields)) 0 ≡ None → All IsFine fields
all_fine from [] none = All-nil IsFine
all_fine from (Ok x ∷ fields) none = All-cons IsFine (Ok x) fields refl (all_fine (from + 1) fields none)
all_fine from (Err kind ∷ fields) none = absurd (cc none)

pub no_fault : {X : Type 0} (from : ℕ) (fields : List (Result X TableKind)) → All IsFine fields
    → slice_get (filter_map fault_of (enumerate_from from fields)) 0 ≡ None
no_fault from [] all = refl
no_fault from (Ok x ∷ fields) all = no_fault (from + 1) fields (All-tail IsFine (Ok x) fields all)
no_fault from (Err kind ∷ fields) all = absurd (cc (All-head IsFine (Err kind) fields all))

-- ---- columns of the weight

abbrev pub is_weight : Column → Bool
is_weight column.Weight = true
is_weight other = false

abbrev pub weights : List Column → ℕ
weights cols = length (filter is_weight cols)

-- a text is among a front and itself
stands_last : (front : List (List ℕ)) (text : List ℕ) → is_in (front ++ text ∷ []) text ≡ true
stands_last front text =
    let one = λ (other : List ℕ). bytes_eq other text in
    let itself = (bytes_eq-Decides text text).1 refl in
    list_any-append one front (text ∷ [])
    ∙ ap (λ b. is_in front text || (b || false)) itself ∙ or_true (is_in front text)
  where
    or_true : (b : Bool) → (b || true) ≡ true
    or_true true = refl
    or_true false = refl

-- what is among a front is among more
stands_still : (front : List (List ℕ)) (text label : List ℕ) → is_in front label ≡ true
    → is_in (front ++ text ∷ []) label ≡ true
stands_still front text label is =
    list_any-append (λ other. bytes_eq other label) front (text ∷ [])
    ∙ ap (λ b. b || list_any (λ other. bytes_eq other label) (text ∷ [])) is

not_rank : (by_heads bad : Bool) (r n : ℕ)
    → cond by_heads (cond bad (Err BadColumns) (Ok (column.Rank r))) (Ok (column.Rank n)) ≡ Ok column.Weight → ⊥
not_rank true true r n is = cc is
not_rank true false r n is = cc is
not_rank false bad r n is = cc is

not_guarded : (cell : Bool) (next : Result Column TableKind) → (next ≡ Ok column.Weight → ⊥)
    → cond cell (Err HeadExpected) next ≡ Ok column.Weight → ⊥
not_guarded true next none is = cc is
not_guarded false next none is = none is

not_weight : (fault : Option TableKind) (n : ℕ) → unless fault (column.Candidate n) ≡ Ok column.Weight → ⊥
not_weight None n is = cc is
not_weight (Some kind) n is = cc is

chosen_is_none : (o : Option ℕ) → chosen_column o ≡ column.Weight → ⊥
chosen_is_none None is = cc is
chosen_is_none (Some rank) is = cc is

weight_or : (is_weights : Bool) (o : Option ℕ) → cond is_weights column.Weight (chosen_column o) ≡ column.Weight
    → is_weights ≡ true
weight_or true o is = refl
weight_or false o is = absurd (chosen_is_none o is)

not_passed : (passed : Bool) (next : Result Column TableKind) → (next ≡ Ok column.Weight → ⊥)
    → cond passed (Ok column.PassedOver) next ≡ Ok column.Weight → ⊥
not_passed true next none is = cc is
not_passed false next none is = none is

module _ (asked : Asked) (whole : List (List ℕ)) where
  -- a column without a label is not the weight's
  no_weight : (l : Layout) (before : List (List ℕ)) (text : List ℕ)
      → next_column l asked whole before text ≡ Ok column.Weight → ⊥
  no_weight layout.Choices before text is =
      let rank = rank_said (length (unlabelled asked whole)) text in
      let bad = eqb rank 0 || list_any (λ other. eqb (rank_said (length (unlabelled asked whole)) other) rank) before in
      not_passed (are_chosen layout.Choices asked.chosen)
      (cond (heads_say_ranks asked whole) (cond bad (Err BadColumns) (Ok (column.Rank rank)))
      (Ok (column.Rank (length before + 1))))
      (not_rank (heads_say_ranks asked whole) bad rank (length before + 1)) is
  no_weight layout.List [] text is = cc is
  no_weight layout.List (other ∷ others) text is = cc is
  no_weight layout.Ranks before text is = not_weight _ _ is

  -- the label of the weight is among these texts
  abbrev pub has_weight : Option (List ℕ) → List (List ℕ) → Bool
  has_weight weight texts = option_map_or (λ label. is_in texts label) weight false

  -- a column of the weight is the first with its label
  record IsFirst (front : List (List ℕ)) (text : List ℕ) : Type 0 where
    pub before : has_weight asked.weight front ≡ false
    pub behind : has_weight asked.weight (front ++ text ∷ []) ≡ true

  first_labelled : (weight : Option (List ℕ)) (front : List (List ℕ)) (text : List ℕ) → is_in front text ≡ false
      → option_map_or (λ label. bytes_eq label text) weight false ≡ true
      → (has_weight weight front ≡ false) × (has_weight weight (front ++ text ∷ []) ≡ true)
  first_labelled None front text new is = absurd (cc is)
  first_labelled (Some label) front text new is =
      let same : label ≡ text = (bytes_eq-Decides label text).0 is in
      (ap (is_in front) same ∙ new, ap (is_in (front ++ text ∷ [])) same ∙ stands_last front text)

  by_label : (labelled_here again : Bool) (l : Column) (next : Result Column TableKind)
      → (next ≡ Ok column.Weight → ⊥) → cond labelled_here (cond again (Err RepeatedColumn) (Ok l)) next ≡ Ok column.Weight
      → (again ≡ false) × (l ≡ column.Weight)
  by_label true true l next none is = absurd (cc is)
  by_label true false l next none is = (refl, cc is)
  by_label false again l next none is = absurd (none is)

  is_first : (front : List (List ℕ)) (text : List ℕ) → column_of asked whole front text ≡ Ok column.Weight
      → IsFirst front text
  is_first front text is =
      let parts = by_label (is_in asked.labels text) (is_in front text) (labelled asked text)
      (cond (not asked.head_is_said && is_cell asked.layout asked whole text) (Err HeadExpected)
      (next_column asked.layout asked whole (unlabelled asked front) text))
      (not_guarded (not asked.head_is_said && is_cell asked.layout asked whole text)
      (next_column asked.layout asked whole (unlabelled asked front) text)
      (no_weight asked.layout (unlabelled asked front) text)) is in
      let both = first_labelled asked.weight front text parts.0 (weight_or _ (number_in asked.chosen text) parts.1) in
      record { before = both.0; behind = both.1 }

  still_has : (weight : Option (List ℕ)) (front : List (List ℕ)) (text : List ℕ) → has_weight weight front ≡ true
      → has_weight weight (front ++ text ∷ []) ≡ true
  still_has None front text is = is
  still_has (Some label) front text is = stands_still front text label is

  -- of columns after a front at most one is the weight's, and none where its label stood before
  pub record AreFew (front : List (List ℕ)) (cols : List Column) : Type 0 where
    pub one : weights cols ≤ 1
    pub none : has_weight asked.weight front ≡ true → weights cols ≡ 0

  one_more : (front : List (List ℕ)) (text : List ℕ) (r : Result Column TableKind) (cols : List Column)
      → column_of asked whole front text ≡ r → AreFew (front ++ text ∷ []) cols → IsFine r
      → (c : Column) × (r ≡ Ok c) × AreFew front (c ∷ cols)
  one_more front text (Err kind) cols is few fine = absurd (cc fine)
  one_more front text (Ok column.Weight) cols is few fine =
      let first = is_first front text is in
      let rest : weights cols ≡ 0 = few.none first.behind in
      (column.Weight, refl, record { one = omega (arith, rest); none = λ had. absurd (cc (sym had ∙ first.before)) })
  one_more front text (Ok column.PassedOver) cols is few fine =
      (column.PassedOver, refl, record { one = few.one; none = λ had. few.none (still_has asked.weight front text had) })
  one_more front text (Ok (column.Candidate n)) cols is few fine =
      (column.Candidate n, refl, record { one = few.one; none = λ had. few.none (still_has asked.weight front text had) })
  one_more front text (Ok (column.Rank n)) cols is few fine =
      (column.Rank n, refl, record { one = few.one; none = λ had. few.none (still_has asked.weight front text had) })
  one_more front text (Ok column.List) cols is few fine =
      (column.List, refl, record { one = few.one; none = λ had. few.none (still_has asked.weight front text had) })

  pub few_weights : (front rest : List (List ℕ)) → All IsFine (each (column_of asked whole) front rest)
      → AreFew front (sound (each (column_of asked whole) front rest))
  few_weights front [] all = record { one = omega arith; none = λ had. refl }
  few_weights front (text ∷ rest) all =
      let here = column_of asked whole front text in
      let more = each (column_of asked whole) (front ++ text ∷ []) rest in
      let found = one_more front text here (sound more) refl
      (few_weights (front ++ text ∷ []) rest (All-tail IsFine here more all)) (All-head IsFine here more all) in
      subst (λ (r : Result Column TableKind). AreFew front (sound (r ∷ more))) (sym found.1) found.2

-- a text for each column has as many weights as there are columns of it
pub as_many_weights : (cols : List Column) (texts : List (List ℕ)) → length texts ≡ length cols
    → length (filter_map weight_in (zip cols texts)) ≡ weights cols
as_many_weights [] texts same = refl
as_many_weights (c ∷ cols) [] same = absurd (omega (arith, same))
as_many_weights (column.Weight ∷ cols) (text ∷ texts) same =
    ap suc (as_many_weights cols texts (omega (arith, same)))
as_many_weights (column.PassedOver ∷ cols) (text ∷ texts) same = as_many_weights cols texts (omega (arith, same))
as_many_weights (column.Candidate n ∷ cols) (text ∷ texts) same = as_many_weights cols texts (omega (arith, same))
as_many_weights (column.Rank n ∷ cols) (text ∷ texts) same = as_many_weights cols texts (omega (arith, same))
as_many_weights (column.List ∷ cols) (text ∷ texts) same = as_many_weights cols texts (omega (arith, same))
