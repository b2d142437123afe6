-- Words of a table say what they stand for.
use Rattle.std.proofs.Common.{◌≡◌, ◌∙◌, refl, sym, ap, ℕ, ◌+◌, ◌-◌, ◌<◌, Bool, true, false, List, length}
use Rattle.std.proofs.Common.{get_or, inl, inr, arith}
use Rattle.std.specs.Prelude.{nat_lt}
use Rattle.std.proofs.lemmas.Bool.{cases_Bool, eq-eqb, eqb-true, ltb-true, ltb-false}
use Rattle.candidate_roll.specs.declared.state.State.{State}
use Rattle.candidate_roll.specs.declared.state.State.TheVariants.{Hopeful, Elected as IsElected, Defeated, Withdrawn}
use Rattle.meek_count.specs.Ranges.{HasTiedFor}
use Rattle.meek_rule.specs.declared.step.Step.{Step}
use Rattle.meek_rule.specs.declared.step.Step.TheVariants.{Elected, Iterate, Defeat}
use Rattle.sheet_text.specs.Lines.{state_word}
use Rattle.sheet_page.specs.Csv.{yes_or_no}
use Rattle.sheet_page.specs.Values.{step_word, defeats}
use Rattle.sheet_page.proofs.Marks.{unmarked}

-- the first letter of a word
abbrev letter : List ℕ → ℕ
letter word = get_or word 0 0

pub marks_say : (mark other : Bool) → yes_or_no mark ≡ yes_or_no other → mark ≡ other
marks_say true true e = refl
marks_say true false e = absurd (omega (arith, ap letter e))
marks_say false true e = absurd (omega (arith, ap letter e))
marks_say false false e = refl

pub states_say : (state other : State) → state_word state ≡ state_word other → state ≡ other
states_say Hopeful Hopeful e = refl
states_say Hopeful IsElected e = absurd (omega (arith, ap letter e))
states_say Hopeful Defeated e = absurd (omega (arith, ap letter e))
states_say Hopeful Withdrawn e = absurd (omega (arith, ap letter e))
states_say IsElected Hopeful e = absurd (omega (arith, ap letter e))
states_say IsElected IsElected e = refl
states_say IsElected Defeated e = absurd (omega (arith, ap letter e))
states_say IsElected Withdrawn e = absurd (omega (arith, ap letter e))
states_say Defeated Hopeful e = absurd (omega (arith, ap letter e))
states_say Defeated IsElected e = absurd (omega (arith, ap letter e))
states_say Defeated Defeated e = refl
states_say Defeated Withdrawn e = absurd (omega (arith, ap letter e))
states_say Withdrawn Hopeful e = absurd (omega (arith, ap letter e))
states_say Withdrawn IsElected e = absurd (omega (arith, ap letter e))
states_say Withdrawn Defeated e = absurd (omega (arith, ap letter e))
states_say Withdrawn Withdrawn e = refl

-- the candidate that a step defeats is among n, at this place
defeated_place : (n c : ℕ) (tied : List Bool) → length tied ≡ n → HasTiedFor n (Defeat c) tied → c - 1 < n
defeated_place n c tied long is =
    elim (cases_Bool (nat_lt (c - 1) n)) [
      | inl below ↦ ltb-true (c - 1) n below
      | inr past ↦ absurd (unlike (sym (unmarked tied (c - 1) (omega (arith, ltb-false (c - 1) n past, long))) ∙ is.1))
    ]
  where
    unlike : false ≡ true → ⊥
    unlike e = cc

-- the word of a step, and of whom it defeats, say the step
pub steps_say :
    (n : ℕ) (step other : Step) (tied marks : List Bool) → length tied ≡ n → length marks ≡ n
    → HasTiedFor n step tied → HasTiedFor n other marks
    → step_word step ≡ step_word other → ((p : ℕ) → p < n → defeats step (p + 1) ≡ defeats other (p + 1)) → step ≡ other
steps_say n Elected Elected tied marks lt lm has also e whom = refl
steps_say n Elected Iterate tied marks lt lm has also e whom = absurd (omega (arith, ap letter e))
steps_say n Elected (Defeat d) tied marks lt lm has also e whom = absurd (omega (arith, ap letter e))
steps_say n Iterate Elected tied marks lt lm has also e whom = absurd (omega (arith, ap letter e))
steps_say n Iterate Iterate tied marks lt lm has also e whom = refl
steps_say n Iterate (Defeat d) tied marks lt lm has also e whom = absurd (omega (arith, ap letter e))
steps_say n (Defeat c) Elected tied marks lt lm has also e whom = absurd (omega (arith, ap letter e))
steps_say n (Defeat c) Iterate tied marks lt lm has also e whom = absurd (omega (arith, ap letter e))
steps_say n (Defeat c) (Defeat d) tied marks lt lm has also e whom =
    let number : c ≡ c - 1 + 1 = omega (arith, has.0) in
    let here = sym (whom (c - 1) (defeated_place n c tied lt has)) ∙ eq-eqb c (c - 1 + 1) number in
    ap (λ k. Defeat k) (number ∙ sym (eqb-true d (c - 1 + 1) here))
