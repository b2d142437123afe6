use Rattle.std.proofs.Common.{ap, refl, ◌∙◌}
use Rattle.candidate_roll.specs.Roll.{RollList}
use Rattle.sheet_text.proofs.SheetLemmas.{under_way, one_more, stopped_in_head, stopped_in_row}
use Rattle.sheet_text.proofs.SheetLemmas.{stands_in_head, stands_in_row, stands_ended, at_end, not_iterated}
use Rattle.sheet_text.proofs.sheet.write_sheet.Goals as goal

pub returns-in_err-write_head_by-clause-front : goal.returns-in_err-write_head_by-clause-front
returns-in_err-write_head_by-clause-front g c =
    let stopped = rw (c.roll-2.ensures.value, c.ballots.ensures.value) at c.in_err-write_head_by.ensures in
    stopped_in_head g.D.Spread.rule g.row.P c.args.count.now _ stopped c.requires c.ballots.ensures.rest
    c.from_residual.ensures.0

pub returns-in_err-write_head_by-clause-stands : goal.returns-in_err-write_head_by-clause-stands
returns-in_err-write_head_by-clause-stands g c =
    let stopped = rw (c.roll-2.ensures.value, c.ballots.ensures.value) at c.in_err-write_head_by.ensures in
    stands_in_head g.D.Spread.rule g.row.P c.args.count.now _ stopped

pub rows-init : goal.rows-init
rows-init g c =
    let wrote = rw (c.roll-2.ensures.value, c.ballots.ensures.value) at c.in_ok-write_head_by.ensures in
    under_way g.D.Spread.rule g.row.P c.args.count.now wrote

pub rows-preserved : goal.rows-preserved
rows-preserved g c =
    one_more g.D.Spread.rule g.row.P c.args.count.now c.rows.count c.rows.invariant c.next.new.self c.row.result.now
    (c.in-Iterated.ensures.leads refl) c.row.ensures.value c.in_ok-write_row_by.ensures

pub returns-in_err-write_row_by-clause-front : goal.returns-in_err-write_row_by-clause-front
returns-in_err-write_row_by-clause-front g c =
    stopped_in_row g.D.Spread.rule g.row.P c.args.count.now c.rows.count c.rows.invariant c.next.new.self
    c.row.result.now (c.in-Iterated.ensures.leads refl) c.row.ensures.value _ c.in_err-write_row_by.ensures
    c.requires c.in-Iterated.ensures.rest c.from_residual-in_err-write_row_by.ensures.0

pub returns-in_err-write_row_by-clause-stands : goal.returns-in_err-write_row_by-clause-stands
returns-in_err-write_row_by-clause-stands g c =
    stands_in_row g.D.Spread.rule g.row.P c.args.count.now c.rows.count c.rows.invariant c.next.new.self
    c.row.result.now (c.in-Iterated.ensures.leads refl) c.row.ensures.value _ c.in_err-write_row_by.ensures

pub returns-clause-stands : goal.returns-clause-stands
returns-clause-stands g c =
    let done = not_iterated c.next.result c.in_default.not-Iterated in
    stands_ended g.D.Spread.rule _ _ _ _ _ c.write_result_by.result
    (record { complete = c.next.ensures.ended done; settled = c.next.ensures.settled done })

pub returns-clause-all : goal.returns-clause-all
returns-clause-all g c =
    let done = not_iterated c.next.result c.in_default.not-Iterated in
    let last = c.states.ensures.value ∙ c.next.ensures.last done in
    let roll = c.roll-3.ensures.value ∙ c.next.ensures.same.roll ∙ c.rows.invariant.leads.same.roll in
    (at_end g.D.Spread.rule g.row.P c.args.count.now c.rows.count c.rows.invariant c.write_result_by.result _ _ c.requires
    (c.next.ensures.at_end.0 done) last (ap (λ (r : RollList). r.names) roll) c.write_result_by.ensures).all

pub returns-clause-front : goal.returns-clause-front
returns-clause-front g c =
    let done = not_iterated c.next.result c.in_default.not-Iterated in
    let last = c.states.ensures.value ∙ c.next.ensures.last done in
    let roll = c.roll-3.ensures.value ∙ c.next.ensures.same.roll ∙ c.rows.invariant.leads.same.roll in
    (at_end g.D.Spread.rule g.row.P c.args.count.now c.rows.count c.rows.invariant c.write_result_by.result _ _ c.requires
    (c.next.ensures.at_end.0 done) last (ap (λ (r : RollList). r.names) roll) c.write_result_by.ensures).front
