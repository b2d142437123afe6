use Rattle.std.proofs.Common.{◌≡◌, ℕ, ◌+◌, ◌*◌, ◌%◌, ◌<◌, sym, ap, ◌∙◌, arith}
use Rattle.meek_trial.specs.Draws.{drawn}
use Rattle.meek_trial.proofs.Going.{drawn_more}
use Rattle.meek_trial.proofs.draws.Draws.draw.Goals as goal

next_is :
    (last number taken : ℕ) → last ≡ drawn number taken
    → (last * 1103515245 + 12345) % 2147483648 ≡ drawn number (taken + 1)
next_is last number taken is = ap (λ (x : ℕ). (x * 1103515245 + 12345) % 2147483648) is ∙ sym (drawn_more number taken)

pub invariant_of-self : goal.invariant_of-self
invariant_of-self c = (next_is c.self.inside.last c.self.inside.number c.self.inside.taken c.self.invariant.0, omega arith)

pub returns-clause-value : goal.returns-clause-value
returns-clause-value c =
    rw (← c.self.view_is)
    (next_is c.self.inside.last c.self.inside.number c.self.inside.taken c.self.invariant.0)
