use Rattle.std.proofs.Common.{◌≡◌, ◌∙◌, ap, ℕ, Option, None, replicate, arith}
use Rattle.batch_core.specs.declared.limits.TheConstants.{LAST_NUMBER}
use Rattle.day_replay.proofs.standing.no_places.Goals as goal

pub returns : goal.returns
returns c =
    let all : c.loop.counter ≡ LAST_NUMBER = omega arith in
    c.loop.invariant ∙ ap (λ (k : ℕ). replicate {A = Option ℕ} k None) all
