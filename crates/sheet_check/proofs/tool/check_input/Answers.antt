use Rattle.std.proofs.Common.{ℕ, List, length, ◌∙◌, refl, subst}
use Rattle.std.specs.Prelude.{Err}
use Rattle.tool_edge.specs.Streams.{writing}
use Rattle.tool_edge.specs.Contest.{IsContest}
use Rattle.sheet_check.specs.Input.{IsSplit}
use Rattle.sheet_check.specs.Behind.{ReadsFileBehind}
use Rattle.sheet_check.proofs.Audits.{judged_front, refused_behind}
use Rattle.sheet_check.proofs.tool.check_input.Goals as goal

-- the verdict is on what is left of the input
pub returns-in-Ok : goal.returns-in-Ok
returns-in-Ok g c =
    let split =
    subst (λ (i : List ℕ). IsSplit i c.in-Some.sheet.now c.in-Some.file.now) c.as_slice.ensures.value
    c.in-Some.ensures in
    let contest =
    subst (λ (l : List ℕ). IsContest l c.in-Some.file.now c.in-Ok.field-0) c.items.ensures c.in-Ok.ensures.1 in
    judged_front c.args.asked c.args.input.items c.in-Some.sheet.now c.in-Some.file.now c.as_slice-in-Ok.result.now
    c.in-Ok.field-0.lots c.in-Ok.field-0.election _
    c.write_verdict.result (writing g.K.Sink.written g.K.Sink.faults c.args.sink.now c.write_verdict.new.sink)
    c.requires split (c.as_slice-in-Ok.ensures.value ∙ c.keep_front.ensures) c.in-Ok.ensures.0 contest refl
    c.write_verdict.ensures

pub returns : goal.returns
returns g c =
    let split =
    subst (λ (i : List ℕ). IsSplit i c.in-Some.sheet.now c.in-Some.file.now) c.as_slice.ensures.value
    c.in-Some.ensures in
    refused_behind c.args.asked c.args.input.items c.in-Some.sheet.now c.in-Some.file.now (length c.in-Some.sheet.now)
    c.in-Err.stop c.refuse_input.result
    (writing g.K.Sink.written g.K.Sink.faults c.args.sink.now c.refuse_input.new.sink)
    c.requires split refl
    (subst (λ (l : List ℕ). ReadsFileBehind (length c.in-Some.sheet.now) l c.in-Some.file.now (Err c.in-Err.stop))
    c.items.ensures c.in-Err.ensures)
    c.refuse_input.ensures
