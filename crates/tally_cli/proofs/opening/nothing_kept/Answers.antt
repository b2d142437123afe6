use Rattle.std.proofs.Common.{◌≡◌, ◌∙◌, ap, ℕ, [], replicate, arith}
use Rattle.tally_cli.proofs.opening.nothing_kept.Goals as goal

pub returns : goal.returns
returns c =
    let all : c.loop.counter ≡ 9999 = omega arith in
    c.loop.invariant ∙ ap (λ (k : ℕ). replicate k (record { candidates = c.args.candidates; lines = [] })) all
