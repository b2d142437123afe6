use Rattle.std.proofs.Common.{◌∙◌, subst}
use Rattle.tool_edge.specs.Finishing.{FinishesOwed}
use Rattle.tool_edge.specs.Streams.{writing}
use Rattle.tool_edge.specs.Tool.{IsOwedFor, no_history}
use Rattle.sheet_page.specs.Owed.{shows}
use Rattle.day_page.proofs.Owing.{no_day, none_above_less, none_above_nine, sheet_owed}
use Rattle.day_page.proofs.tool.show.Goals as goal

pub show_at-requires-clause-greatest : goal.show_at-requires-clause-greatest
show_at-requires-clause-greatest g c = none_above_nine c.args.input.now

pub returns : goal.returns
returns g c =
    let input = c.args.input.now in
    let format = c.args.format in
    let below_nine = none_above_less input 8 (none_above_nine input) c.in_default.ensures.none in
    let below_eight = none_above_less input 7 below_nine c.in_default-show_at.ensures.none in
    let below_seven = none_above_less input 6 below_eight c.in_default-show_at-2.ensures.none in
    let none = none_above_less input 5 below_seven c.in_default-show_at-3.ensures.none in
    let untouched =
    c.in_default-show_at-3.ensures.untouched ∙ c.in_default-show_at-2.ensures.untouched ∙ c.in_default-show_at.ensures.untouched
    ∙ c.in_default.ensures.untouched in
    let shown =
    subst (λ before. FinishesOwed (IsOwedFor shows format input no_history) c.show_sheet.result
    (writing g.K.Sink.written g.K.Sink.faults before c.show_sheet.new.sink)) untouched c.show_sheet.ensures in
    sheet_owed format input _ _ (no_day input none) shown
