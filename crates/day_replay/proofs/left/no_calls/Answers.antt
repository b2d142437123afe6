use Rattle.std.proofs.Common.{◌≡◌, ◌∙◌, ap, ℕ, List, [], replicate, arith}
use Rattle.batch_core.specs.declared.call.Call.{Call}
use Rattle.day_replay.proofs.left.no_calls.Goals as goal

pub returns : goal.returns
returns c =
    let all : c.loop.counter ≡ 16 = omega arith in
    c.loop.invariant ∙ ap (λ (k : ℕ). replicate {A = List Call} k []) all
