use Rattle.std.proofs.Common.{◌≡◌, List, ap, sym, subst, arith}
use Rattle.frozen_plan.specs.declared.plan_row.PlanRow.{PlanRow}
use Rattle.frozen_plan.specs.Forest.{rows_of, through, nodes_of}
use Rattle.blt_writer.proofs.WalkLemmas.{siblings_step}
use Rattle.blt_writer.proofs.rows.through_all.Goals as goal

-- what stands past the end of some rows
abbrev none : PlanRow
none = record { depth = 0; candidate = 0; ballots = 0; skip = 0 }

pub loop-siblings-preserved : goal.loop-siblings-preserved
loop-siblings-preserved c =
    let are = c.loop-siblings.invariant.are in
    let step = siblings_step are.0 c.loop-siblings.siblings.now none are.1 (omega arith) in
    record {
      are = (are.0, subst (λ (l : List PlanRow). l ≡ rows_of are.0 (nodes_of l)) (sym c.split_at.ensures.back) step.behind);
      missing =
          omega (
            arith,
            c.loop-siblings.invariant.missing,
            step.goes_through,
            ap (λ (l : List PlanRow). through (nodes_of l)) c.split_at.ensures.back,
          );
    }
