-- No lot decided anything where no iteration has a tie, and the other way round.
use Rattle.std.proofs.Common.{◌≡◌, ◌∙◌, ℕ, ◌<◌, ◌≤◌, ◌&&◌, ◌||◌, not, nat_le, zero, suc, Bool, true, false, cond, List}
use Rattle.std.proofs.Common.{[], ◌∷◌, ◌++◌, length, slice_index, get_or, drop, replicate, All, arith, refl}
use Rattle.std.proofs.Common.{ap, sym, subst, inl, inr}
use Rattle.std.specs.List.{flat_map, list_any}
use Rattle.std.proofs.lemmas.Bool.{and_from, and_left, and_parts, and_right, cases_Bool, leb-false, lt-leb}
use Rattle.std.proofs.lemmas.Bool.{not-true, not_from_false, or_from, or_parts}
use Rattle.std.proofs.lemmas.List.Folds.{list_any_at, list_any_none}
use Rattle.candidate_roll.specs.State.{state_at}
use Rattle.candidate_roll.specs.declared.state.State.{State}
use Rattle.lot_order.specs.Flags.{mark_at}
use Rattle.meek_rule.specs.declared.step.Step.{Step}
use Rattle.meek_rule.specs.declared.step.Step.TheVariants.{Elected, Iterate, Defeat}
use Rattle.meek_rule.specs.Places.{marked_count}
use Rattle.meek_rule.specs.Quota.{has_reached}
use Rattle.meek_rule.specs.Row.{Row}
use Rattle.meek_rule.specs.Situation.{is_hopeful}
use Rattle.meek_rule.proofs.WinnersByCount.{marked_place}
use Rattle.meek_count.specs.Ranges.{HasTiedFor}
use Rattle.rule_laws.specs.NoTies.{HasNoTie}
use Rattle.sheet_text.specs.Lines.{ended}
use Rattle.sheet_reader.specs.Form.{IsPrintableRow}
use Rattle.sheet_reader.specs.Values.{SheetList}
use Rattle.count_promise.specs.Lots.{defeat_is_by_lot, election_is_by_lot, is_by_lot, is_left_out}
use Rattle.count_promise.specs.Lots.{is_seated_by_lot, leaves_out, some_left_out_has}
use Rattle.count_promise.specs.Lines.{defeat_lots, election_lots, further_text, lot_defeat_line}
use Rattle.count_promise.specs.Lines.{lot_election_line, lots_of, lots_text, no_lot}
use Rattle.count_promise.specs.Laws.{SaysNoLot}
use Rattle.count_promise.proofs.Places.{any_nowhere, nowhere_here}

-- ---- an iteration

none_marked : (n : ℕ) → marked_count (replicate n false) ≡ 0
none_marked zero = refl
none_marked (suc n) = none_marked n

one_tied :
    (n : ℕ) (row : Row) (step : Step) → HasTiedFor n step row.tied → defeat_is_by_lot step row ≡ false
    → marked_count row.tied ≤ 1
one_tied n row Elected none by =
    subst (λ (marks : List Bool). marked_count marks ≤ 1) (sym none) (omega (arith, none_marked n))
one_tied n row Iterate none by =
    subst (λ (marks : List Bool). marked_count marks ≤ 1) (sym none) (omega (arith, none_marked n))
one_tied n row (Defeat c) has by = omega (arith, leb-false 2 (marked_count row.tied) by)

not_by_lot : (row : Row) (step : Step) → marked_count row.tied ≤ 1 → defeat_is_by_lot step row ≡ false
not_by_lot row Elected few = refl
not_by_lot row Iterate few = refl
not_by_lot row (Defeat c) few = lt-leb 2 (marked_count row.tied) (omega arith)

-- of two tests that don't both hold, and one that does
second_fails : (x y : Bool) → (x && y) ≡ false → x ≡ true → y ≡ false
second_fails true y none is = none
second_fails false y none is = absurd (let off = sym is in cc)

hopeful_place : (states : List State) (p : ℕ) → is_hopeful (state_at states p) ≡ true → p < length states
hopeful_place [] p is = absurd (let off = sym is in cc)
hopeful_place (state ∷ states) zero is = omega arith
hopeful_place (state ∷ states) (suc p) is = let rest : p < length states = hopeful_place states p is in omega arith

first_holds : (x y : Bool) → (x && y) ≡ true → x ≡ true
first_holds true y both = refl
first_holds false y both = absurd (let off = sym both in cc)

pub row_no_tie : (n : ℕ) (row : Row) → IsPrintableRow 9 n row → is_by_lot row ≡ false → HasNoTie row
row_no_tie n row fits none =
    let parts = or_parts (defeat_is_by_lot row.step row) (election_is_by_lot row) none in
    let size : ℕ = length row.states in
    record {
      for_defeat = one_tied n row row.step fits.tied parts.0;
      for_election = λ a b elected reached passed.
          let inside : a < size =
          omega (arith, marked_place row.elected a elected, fits.of_all.elected, fits.of_all.states) in
          let seated = nowhere_here (is_seated_by_lot row) size a parts.1 inside in
          let others =
          second_fails (mark_at row.elected a) (some_left_out_has row (slice_index row.votes a)) seated
          elected in
          let place : b < size = hopeful_place row.states b (first_holds _ _ reached) in
          let leaves = nowhere_here (leaves_out row (slice_index row.votes a)) size b others place in
          let out : is_left_out row b ≡ true = and_from _ _ reached (not_from_false (mark_at row.elected b) passed) in
          leb-false (slice_index row.votes a) (slice_index row.votes b) (second_fails (is_left_out row b) _ leaves out);
    }

pub tie_none : (row : Row) → HasNoTie row → is_by_lot row ≡ false
tie_none row calm =
    let size : ℕ = length row.states in
    or_from (defeat_is_by_lot row.step row) (election_is_by_lot row) (not_by_lot row row.step calm.for_defeat)
    (any_nowhere (is_seated_by_lot row) size (λ a inside.
    elim (cases_Bool (mark_at row.elected a)) [
      | inr unmarked ↦ and_left (mark_at row.elected a) (some_left_out_has row (slice_index row.votes a)) unmarked
      | inl elected ↦
          and_right (mark_at row.elected a) (some_left_out_has row (slice_index row.votes a))
          (any_nowhere (leaves_out row (slice_index row.votes a)) size (λ b place.
          elim (cases_Bool (is_left_out row b)) [
            | inr stays ↦ and_left (is_left_out row b) (nat_le (slice_index row.votes a) (slice_index row.votes b)) stays
            | inl out ↦
                and_right (is_left_out row b) (nat_le (slice_index row.votes a) (slice_index row.votes b))
                (lt-leb (slice_index row.votes a) (slice_index row.votes b) (fewer a b elected out))
          ]))
    ]))
  where
    fewer :
        (a b : ℕ) → mark_at row.elected a ≡ true → is_left_out row b ≡ true
        → slice_index row.votes b < slice_index row.votes a
    fewer a b elected out =
        let parts = and_parts (has_reached row.states row.votes row.quota b) (not (mark_at row.elected b)) out in
        calm.for_election a b elected parts.0 (not-true (mark_at row.elected b) parts.1)

-- ---- the whole text

-- a text that begins with `r`
abbrev Begins : List ℕ → Type 0
Begins text = (rest : List ℕ) × (text ≡ 114 ∷ rest)

begins_longer : (text more : List ℕ) → Begins text → Begins (text ++ more)
begins_longer text more (rest, is) = (rest ++ more, ap (λ (l : List ℕ). l ++ more) is)

defeat_begins : (row : Row) → defeat_is_by_lot row.step row ≡ true → Begins (defeat_lots row)
defeat_begins row by =
    subst (λ (b : Bool). Begins (cond b (ended (lot_defeat_line row)) [])) (sym by)
    (drop 1 (ended (lot_defeat_line row)), refl)

election_begins : (row : Row) → election_is_by_lot row ≡ true → Begins (election_lots row)
election_begins row by =
    subst (λ (b : Bool). Begins (cond b (ended (lot_election_line row)) [])) (sym by)
    (drop 1 (ended (lot_election_line row)), refl)

pub lots_begin : (rows : List Row) → list_any is_by_lot rows ≡ true → Begins (flat_map lots_of rows)
lots_begin [] some = absurd (let off = sym some in cc)
lots_begin (row ∷ rows) some =
    elim (cases_Bool (defeat_is_by_lot row.step row)) [
      | inl defeat ↦
          begins_longer (lots_of row) (flat_map lots_of rows)
          (begins_longer (defeat_lots row) (election_lots row) (defeat_begins row defeat))
      | inr calm ↦
          elim (cases_Bool (election_is_by_lot row)) [
            | inl election ↦
                begins_longer (lots_of row) (flat_map lots_of rows)
                (subst (λ (l : List ℕ). Begins (l ++ election_lots row)) (sym (no_defeat_line row calm))
                (election_begins row election))
            | inr none ↦
                subst (λ (l : List ℕ). Begins (l ++ flat_map lots_of rows)) (sym (no_lines row calm none))
                (lots_begin rows (rest_some row rows some (or_from _ _ calm none)))
          ]
    ]
  where
    no_defeat_line : (row : Row) → defeat_is_by_lot row.step row ≡ false → defeat_lots row ≡ []
    no_defeat_line row calm = ap (λ (b : Bool). cond b (ended (lot_defeat_line row)) []) calm

    no_lines : (row : Row) → defeat_is_by_lot row.step row ≡ false → election_is_by_lot row ≡ false → lots_of row ≡ []
    no_lines row calm none =
        λ i. cond (calm i) (ended (lot_defeat_line row)) []
        ++ cond (none i) (ended (lot_election_line row)) []

    rest_some :
        (row : Row) (rows : List Row) → (is_by_lot row || list_any is_by_lot rows) ≡ true
        → is_by_lot row ≡ false → list_any is_by_lot rows ≡ true
    rest_some row rows some none = sym (ap (λ (b : Bool). b || list_any is_by_lot rows) none) ∙ some

first_byte : (a b : ℕ) (front other : List ℕ) → a ∷ front ≡ b ∷ other → a ≡ b
first_byte a b front other same = cc

pub says_none : (n : ℕ) (v : SheetList) → All (IsPrintableRow 9 n) v.rows → SaysNoLot v → All HasNoTie v.rows
says_none n v fits says k d below =
    row_no_tie n (get_or v.rows k d) (fits k d below)
    (elim (cases_Bool (is_by_lot (get_or v.rows k d))) [
      | inr none ↦ none
      | inl by ↦ absurd (clash (list_any_at is_by_lot v.rows k d below by))
    ])
  where
    other_byte : (one other : List ℕ) → 114 ∷ one ≡ 110 ∷ other → ⊥
    other_byte one other same =
        let first : 114 ≡ 110 = first_byte 114 110 one other same in
        omega (arith, first)

    clash : list_any is_by_lot v.rows ≡ true → ⊥
    clash some =
        let lots : Begins (lots_text v.rows) =
        subst (λ (b : Bool). Begins (cond b (flat_map lots_of v.rows) (ended no_lot))) (sym some) (lots_begin v.rows some) in
        let whole = begins_longer (lots_text v.rows) (further_text v) lots in
        other_byte whole.0 (drop 1 (ended no_lot ++ says.0)) (sym whole.1 ∙ says.1)

pub none_said : (v : SheetList) → All HasNoTie v.rows → SaysNoLot v
none_said v calm =
    let none : list_any is_by_lot v.rows ≡ false =
    list_any_none is_by_lot v.rows (λ k d below. tie_none (get_or v.rows k d) (calm k d below)) in
    (further_text v, ap (λ (b : Bool). cond b (flat_map lots_of v.rows) (ended no_lot) ++ further_text v) none)
