-- In the sheet of a count each candidate has one fate.
use Rattle.std.proofs.Common.{◌≡◌, ◌∙◌, ap, sym, subst, refl, arith, inl, inr, ℕ, ◌+◌, ◌≤◌, ◌||◌, Bool, true}
use Rattle.std.proofs.Common.{false, cond, List, [], ◌∷◌, length, All}
use Rattle.std.specs.Prelude.{not, if◌then◌else◌}
use Rattle.std.specs.List.{list_any}
use Rattle.std.proofs.lemmas.Bool.{cases_Bool}
use Rattle.std.proofs.lemmas.List.FromFn.{get_or-map-range_with_len}
use Rattle.std.proofs.lemmas.List.Sums.{sum_by-cons}
use Rattle.fixed_place.specs.Rounding.{scale}
use Rattle.candidate_roll.specs.State.{state_at}
use Rattle.candidate_roll.specs.declared.state.State.{State}
use Rattle.candidate_roll.specs.declared.state.State.TheVariants.{Hopeful, Elected as IsElected, Defeated, Withdrawn}
use Rattle.lot_order.specs.Flags.{mark_at}
use Rattle.meek_rule.specs.Row.{Row}
use Rattle.meek_rule.specs.Situation.{Situation, is_hopeful, opening}
use Rattle.meek_count.specs.Laws.{RowsStayInRange}
use Rattle.meek_count.specs.Ranges.{IsInRange}
use Rattle.meek_count.proofs.WholeCount.{length-opening, valid-opening_of_roll}
use Rattle.sheet_reader.specs.Laws.{values_of}
use Rattle.sheet_reader.specs.Values.{SheetList}
use Rattle.sheet_words.specs.Laws.{EachHasOneFate, HasOneFate, times_elected, times_defeated}
use Rattle.sheet_words.specs.Sentences.{decides_on, late, late_at, strikes}
use Rattle.sheet_words.proofs.Fates.{Fated, OneWay, Times, fated}

abbrev once : Bool → ℕ
once b = cond b 1 0

-- whether an iteration of some decides on the candidate at a place
module _ (p : ℕ) where
  some_decides : (rows : List Row) → 1 ≤ times_elected rows p + times_defeated rows p → list_any (decides_on p) rows ≡ true
  some_decides [] some = absurd (omega arith)
  some_decides (row ∷ rows) some =
      let won = sum_by-cons (λ (r : Row). cond (mark_at r.elected p) 1 0) row rows in
      let lost = sum_by-cons (λ (r : Row). cond (strikes r.step p) 1 0) row rows in
      let rest = list_any (decides_on p) rows in
      elim (cases_Bool (mark_at row.elected p)) [
        | inl is ↦ ap (λ (b : Bool). (b || strikes row.step p) || rest) is
        | inr unmarked ↦
            ap (λ (b : Bool). (b || strikes row.step p) || rest) unmarked
            ∙ elim (cases_Bool (strikes row.step p)) [
              | inl is ↦ ap (λ (b : Bool). b || rest) is
              | inr unstruck ↦
                  ap (λ (b : Bool). b || rest) unstruck
                  ∙ some_decides rows
                  (omega (arith, some, won, lost, ap once unmarked, ap once unstruck))
            ]
      ]

  none_decides :
      (rows : List Row) → times_elected rows p ≡ 0 → times_defeated rows p ≡ 0
      → list_any (decides_on p) rows ≡ false
  none_decides [] none never = refl
  none_decides (row ∷ rows) none never =
      let won = sum_by-cons (λ (r : Row). cond (mark_at r.elected p) 1 0) row rows in
      let lost = sum_by-cons (λ (r : Row). cond (strikes r.step p) 1 0) row rows in
      let rest = list_any (decides_on p) rows in
      elim (cases_Bool (mark_at row.elected p)) [
        | inl is ↦ absurd (omega (arith, none, won, ap once is))
        | inr unmarked ↦
            ap (λ (b : Bool). (b || strikes row.step p) || rest) unmarked
            ∙ elim (cases_Bool (strikes row.step p)) [
              | inl is ↦ absurd (omega (arith, never, lost, ap once is))
              | inr unstruck ↦
                  ap (λ (b : Bool). b || rest) unstruck
                  ∙ none_decides rows (omega (arith, none, won)) (omega (arith, never, lost))
            ]
      ]

-- how many sentences the end has on a candidate
none_late : (v : SheetList) (p : ℕ) → list_any (decides_on p) v.rows ≡ true → length (late_at v p) ≡ 0
none_late v p decided = ap (λ (b : Bool). length (if not b then late v p (state_at v.last p) else [])) decided

some_late :
    (v : SheetList) (p : ℕ) (state : State) → list_any (decides_on p) v.rows ≡ false → state_at v.last p ≡ state
    → length (late_at v p) ≡ length (late v p state)
some_late v p state open_still is =
    ap (λ (b : Bool). length (if not b then late v p (state_at v.last p) else [])) open_still
    ∙ ap (λ (s : State). length (late v p s)) is

one_way : (v : SheetList) (p : ℕ) → OneWay v.rows p (state_at v.last p) → HasOneFate v p (state_at v.last p)
one_way v p way =
    elim way [
      | inl won ↦
          let none = none_late v p (some_decides p v.rows (omega (arith, won.0.won))) in
          subst (HasOneFate v p) (sym won.1) (omega (arith, won.0.won, none), won.0.lost)
      | inr rest ↦
          elim rest [
            | inl lost ↦
                let none = none_late v p (some_decides p v.rows (omega (arith, lost.0.lost))) in
                subst (HasOneFate v p) (sym lost.1) (lost.0.won, omega (arith, lost.0.lost, none))
            | inr later ↦
                let never = none_decides p v.rows later.0.won later.0.lost in
                elim later.1 [
                  | inl is ↦
                      let one : length (late_at v p) ≡ 1 = some_late v p IsElected never is in
                      subst (HasOneFate v p) (sym is) (omega (arith, later.0.won, one), later.0.lost)
                  | inr is ↦
                      let one : length (late_at v p) ≡ 1 = some_late v p Defeated never is in
                      subst (HasOneFate v p) (sym is) (later.0.won, omega (arith, later.0.lost, one))
                ]
          ]
    ]

-- from the state in which a count opens
from_opening :
    (v : SheetList) (p : ℕ) (gone : Bool) (here : State) → here ≡ cond gone Withdrawn Hopeful
    → Fated v.rows p here (state_at v.last p) → HasOneFate v p (state_at v.last p)
from_opening v p gone here opened way =
    elim way [
      | inl done ↦ out gone opened done
      | inr going ↦ one_way v p going.1
    ]
  where
    out :
        (b : Bool) → here ≡ cond b Withdrawn Hopeful
        → (is_hopeful here ≡ false) × (state_at v.last p ≡ here) × Times 0 0 v.rows p → HasOneFate v p (state_at v.last p)
    out true is done =
        let withdrawn : state_at v.last p ≡ Withdrawn = done.1 ∙ is in
        let none : length (late_at v p) ≡ 0 =
        some_late v p Withdrawn (none_decides p v.rows done.2.won done.2.lost) withdrawn in
        subst (HasOneFate v p) (sym withdrawn) (done.2.won, done.2.lost, none)
    out false is done = absurd (let off = sym done.0 ∙ ap is_hopeful is in cc)

pub one_fate : RowsStayInRange → EachHasOneFate
one_fate in_range rule places units ballots roll lots rows last p is counted below =
    let s : ℕ = scale places in
    let start : Situation = opening s units roll.seats roll.withdrawn in
    let long : length start.states ≡ length roll.names = length-opening s units roll is.sound_roll in
    let ranged : All (IsInRange places (length start.states)) rows =
    subst (λ (n : ℕ). All (IsInRange places n) rows) (sym long)
    (in_range rule places units ballots roll lots rows last is counted).0 in
    let opened : state_at start.states p ≡ cond (mark_at roll.withdrawn p) Withdrawn Hopeful =
    get_or-map-range_with_len (λ q. cond (mark_at roll.withdrawn q) Withdrawn Hopeful) 0 (length roll.withdrawn) p p
    Withdrawn (omega (arith, below, is.sound_roll.same_length)) (omega arith) in
    from_opening (values_of roll (length ballots) rows last) p (mark_at roll.withdrawn p) (state_at start.states p) opened
    (fated rule s places ballots lots start rows last p
    (valid-opening_of_roll s units roll is.some_omega is.small_omega is.sound_roll) is.order_of_lots
    (is.lots_of_all ∙ sym long) (omega (arith, below, long)) ranged counted)
