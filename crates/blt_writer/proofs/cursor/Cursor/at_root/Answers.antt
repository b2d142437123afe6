use Rattle.std.proofs.Common.{arith}
use Rattle.blt_writer.proofs.WalkLemmas.{plain-plan, rest_of_plan}
use Rattle.blt_writer.proofs.TakeLemmas.{rising_plan}
use Rattle.blt_writer.proofs.cursor.Cursor.at_root.Goals as goal

pub invariant_of-result : goal.invariant_of-result
invariant_of-result c = rest_of_plan _ _ c.rows-rows.ensures.plan

pub returns-clause-ballots : goal.returns-clause-ballots
returns-clause-ballots c = plain-plan _ _ c.rows-rows.ensures.plan c.args.path (omega arith)

pub returns-clause-rising : goal.returns-clause-rising
returns-clause-rising c = rising_plan _ _ c.rows-rows.ensures.plan c.args.path (omega arith)
