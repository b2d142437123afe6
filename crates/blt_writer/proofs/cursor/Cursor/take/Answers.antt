use Rattle.std.proofs.Common.{◌≤◌, ◌+◌, length, sym, ◌∙◌, arith}
use Rattle.frozen_plan.specs.declared.plan_row.PlanRow.{PlanRow}
use Rattle.blt_writer.proofs.TakeLemmas.{had_none, left_none, here_nodes, here_some, here_inside, next_nodes}
use Rattle.blt_writer.proofs.TakeLemmas.{next_below, next_rest, count_taken, left_taken}
use Rattle.blt_writer.proofs.cursor.Cursor.take.Goals as goal

-- what stands past the end of some rows
abbrev none : PlanRow
none = record { depth = 0; candidate = 0; ballots = 0; skip = 0 }

pub returns-then-not-is_at-clause-count : goal.returns-then-not-is_at-clause-count
returns-then-not-is_at-clause-count c =
    had_none c.args.ranking.now c.args.self.now (sym c.is_at.ensures ∙ c.if-not-is_at.true)

pub returns-then-not-is_at-clause-left : goal.returns-then-not-is_at-clause-left
returns-then-not-is_at-clause-left c =
    left_none c.args.ranking.now c.args.self.now (sym c.is_at.ensures ∙ c.if-not-is_at.true)

pub slice_bounds-ends_at_first-count : goal.slice_bounds-ends_at_first-count
slice_bounds-ends_at_first-count c =
    let inside : c.self.inside.at + 1 ≤ length c.rows-rows.result.now =
    here_inside c.args.ranking.now c.self.inside.path c.rows-rows.result.now c.self.inside.plan.rows
    c.self.inside.at c.args.self.now c.rows-rows.ensures.rows c.self.view_is
    (sym c.is_at.ensures ∙ c.if-not-is_at.false) in
    omega (arith, inside)

pub slice_bounds-ends_at_first-start : goal.slice_bounds-ends_at_first-start
slice_bounds-ends_at_first-start c =
    let inside : c.self.inside.at + 1 ≤ length c.rows-rows.result.now =
    here_inside c.args.ranking.now c.self.inside.path c.rows-rows.result.now c.self.inside.plan.rows
    c.self.inside.at c.args.self.now c.rows-rows.ensures.rows c.self.view_is
    (sym c.is_at.ensures ∙ c.if-not-is_at.false) in
    omega (arith, inside)

pub slice_bounds-ends_at_first-end : goal.slice_bounds-ends_at_first-end
slice_bounds-ends_at_first-end c =
    let inside : c.self.inside.at + 1 ≤ length c.rows-rows.result.now =
    here_inside c.args.ranking.now c.self.inside.path c.rows-rows.result.now c.self.inside.plan.rows
    c.self.inside.at c.args.self.now c.rows-rows.ensures.rows c.self.view_is
    (sym c.is_at.ensures ∙ c.if-not-is_at.false) in
    omega (arith, inside)

pub ends_at_first-count-requires-clause-nodes : goal.ends_at_first-count-requires-clause-nodes
ends_at_first-count-requires-clause-nodes c =
    here_nodes c.rows-rows.result.now c.self.inside.plan.rows c.self.inside.at c.rows-rows.ensures.rows
    c.self.invariant

pub ends_at_first-count-requires-clause-some : goal.ends_at_first-count-requires-clause-some
ends_at_first-count-requires-clause-some c =
    here_some c.args.ranking.now c.self.inside.path c.rows-rows.result.now c.self.inside.plan.rows
    c.self.inside.at c.args.self.now c.rows-rows.ensures.rows c.self.view_is
    (sym c.is_at.ensures ∙ c.if-not-is_at.false)

pub overflow_add-self : goal.overflow_add-self
overflow_add-self c =
    let inside : c.self.inside.at + 1 ≤ length c.rows-rows.result.now =
    here_inside c.args.ranking.now c.self.inside.path c.rows-rows.result.now c.self.inside.plan.rows
    c.self.inside.at c.args.self.now c.rows-rows.ensures.rows c.self.view_is
    (sym c.is_at.ensures ∙ c.if-not-is_at.false) in
    omega (arith, inside)

pub slice_bounds-lead-count : goal.slice_bounds-lead-count
slice_bounds-lead-count c =
    let inside : c.self.inside.at + 1 ≤ length c.rows-rows.result.now =
    here_inside c.args.ranking.now c.self.inside.path c.rows-rows.result.now c.self.inside.plan.rows
    c.self.inside.at c.args.self.now c.rows-rows.ensures.rows c.self.view_is
    (sym c.is_at.ensures ∙ c.if-not-is_at.false) in
    omega (arith, inside)

pub slice_bounds-lead-start : goal.slice_bounds-lead-start
slice_bounds-lead-start c =
    let inside : c.self.inside.at + 1 ≤ length c.rows-rows.result.now =
    here_inside c.args.ranking.now c.self.inside.path c.rows-rows.result.now c.self.inside.plan.rows
    c.self.inside.at c.args.self.now c.rows-rows.ensures.rows c.self.view_is
    (sym c.is_at.ensures ∙ c.if-not-is_at.false) in
    omega (arith, inside)

pub slice_bounds-lead-end : goal.slice_bounds-lead-end
slice_bounds-lead-end c =
    let inside : c.self.inside.at + 1 ≤ length c.rows-rows.result.now =
    here_inside c.args.ranking.now c.self.inside.path c.rows-rows.result.now c.self.inside.plan.rows
    c.self.inside.at c.args.self.now c.rows-rows.ensures.rows c.self.view_is
    (sym c.is_at.ensures ∙ c.if-not-is_at.false) in
    omega (arith, inside)

pub lead-requires-clause-rest : goal.lead-requires-clause-rest
lead-requires-clause-rest c =
    next_nodes c.rows-rows.result.now c.self.inside.plan.rows c.self.inside.at c.rows-rows.ensures.rows
    c.self.invariant

pub lead-requires-clause-below_root : goal.lead-requires-clause-below_root
lead-requires-clause-below_root c =
    next_below c.rows-rows.result.now c.self.inside.plan.rows c.self.inside.at c.rows-rows.ensures.rows
    c.self.invariant

pub invariant_of-self : goal.invariant_of-self
invariant_of-self c = next_rest c.self.inside.plan.rows c.self.inside.at c.self.invariant

pub returns-clause-count : goal.returns-clause-count
returns-clause-count c =
    count_taken c.args.ranking.now c.self.inside.path c.rows-rows.result.now c.self.inside.plan.rows
    c.self.inside.at _ c.args.self.now none
    c.rows-rows.ensures.rows c.self.view_is (sym c.is_at.ensures ∙ c.if-not-is_at.false) (c.ends_at_first-count.ensures none)

pub returns-clause-left : goal.returns-clause-left
returns-clause-left c =
    left_taken c.args.ranking.now c.self.inside.path c.lead.new.path c.rows-rows.result.now
    c.self.inside.plan.rows c.self.inside.at c.args.self.now
    c.rows-rows.ensures.rows c.self.view_is (sym c.is_at.ensures ∙ c.if-not-is_at.false) c.lead.ensures
