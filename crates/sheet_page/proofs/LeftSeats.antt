-- Who takes a seat that was left.
use Rattle.std.proofs.Common.{◌≡◌, ◌∙◌, refl, ap, ℕ, ◌<◌, ◌&&◌, ◌||◌, not, Bool, true, false, zero, suc, List}
use Rattle.std.proofs.Common.{[], ◌∷◌, length, arith}
use Rattle.std.specs.Prelude.{◌↔◌}
use Rattle.std.proofs.lemmas.Bool.{and_parts}
use Rattle.candidate_roll.specs.State.{state_at}
use Rattle.candidate_roll.specs.declared.state.State.{State}
use Rattle.candidate_roll.specs.declared.state.State.TheVariants.{Hopeful, Elected, Defeated, Withdrawn}
use Rattle.lot_order.specs.Flags.{mark_at}
use Rattle.meek_rule.specs.Row.{Row}
use Rattle.sheet_reader.specs.Values.{SheetList}
use Rattle.meek_rule.specs.Situation.{is_elected}
use Rattle.sheet_minutes.specs.Rounds.{row_at}
use Rattle.sheet_page.specs.Html.{is_seated, was_elected}

elected_is : (state : State) → is_elected state ≡ true → state ≡ Elected
elected_is Hopeful is = cc
elected_is Elected is = refl
elected_is Defeated is = cc
elected_is Withdrawn is = cc

is_not : (b : Bool) → not b ≡ true → b ≡ false
is_not true is = cc
is_not false is = refl

neither : (a b : Bool) → (a || b) ≡ false → (a ≡ false) × (b ≡ false)
neither true b is = cc
neither false b is = (refl, is)

-- no iteration marks the candidate
none_marks : (rows : List Row) (p : ℕ) → was_elected rows p ≡ false → (i : ℕ) → i < length rows
    → mark_at (row_at rows i).elected p ≡ false
none_marks [] p none i below = absurd (omega (arith, below))
none_marks (row ∷ rows) p none zero below = (neither (mark_at row.elected p) (was_elected rows p) none).0
none_marks (row ∷ rows) p none (suc i) below =
    none_marks rows p (neither (mark_at row.elected p) (was_elected rows p) none).1 i (omega (arith, below))

unmarked : (rows : List Row) (p : ℕ) → ((i : ℕ) → i < length rows → mark_at (row_at rows i).elected p ≡ false)
    → was_elected rows p ≡ false
unmarked [] p none = refl
unmarked (row ∷ rows) p none =
    both (mark_at row.elected p) (was_elected rows p) (none 0 (omega arith))
    (unmarked rows p (λ i below. none (suc i) (omega (arith, below))))
  where
    both : (a b : Bool) → a ≡ false → b ≡ false → (a || b) ≡ false
    both true b first second = first
    both false b first second = second

pub seated_are : (v : SheetList) (p : ℕ) → (is_seated v p ≡ true)
    ↔ ((state_at v.last p ≡ Elected) × ((i : ℕ) → i < length v.rows → mark_at (row_at v.rows i).elected p ≡ false))
seated_are v p = (
  λ is.
      let parts = and_parts (is_elected (state_at v.last p)) (not (was_elected v.rows p)) is in (
        elected_is (state_at v.last p) parts.0,
        none_marks v.rows p (is_not (was_elected v.rows p) parts.1),
      ),
  λ (last, none). ap (λ state. is_elected state && not (was_elected v.rows p)) last
      ∙ ap (λ b. not b) (unmarked v.rows p none),
)
