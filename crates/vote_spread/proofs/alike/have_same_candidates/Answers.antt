use Rattle.std.proofs.Common.{arith}
use Rattle.frozen_plan.specs.declared.plan_row.PlanRow.{PlanRow}
use Rattle.vote_spread.proofs.TailLemmas.{same_candidates}
use Rattle.vote_spread.proofs.alike.have_same_candidates.Goals as goal

-- what stands past the end of some rows
abbrev none : PlanRow
none = record { depth = 0; candidate = 0; ballots = 0; skip = 0 }

pub returns : goal.returns
returns c =
    λ is. same_candidates c.args.rows.now c.args.other.now none (omega arith)
    (λ k lt. c.loop-i.invariant k none (omega arith))
