use Rattle.std.proofs.Common.{refl}
use Rattle.day_text.proofs.Cuts.{false-ne_true}
use Rattle.day_text.proofs.SheetCuts.{none_read, one_line_more, end_read, no_sheet}
use Rattle.day_text.proofs.sheet_cut.cut_sheet.Goals as goal

pub lines-init : goal.lines-init
lines-init c = none_read c.args.text.now

pub returns-then-is_same : goal.returns-then-is_same
returns-then-is_same c =
    let cut = c.in-Some.ensures in
    end_read _ _ _ c.in-Some.behind.now _ _ _ c.lines.invariant cut.0 (c.if-is_same.ensures.0 refl) refl
    c.split_at.ensures.front c.split_at.ensures.back

pub lines-preserved : goal.lines-preserved
lines-preserved c =
    let cut = c.in-Some.ensures in
    one_line_more _ _ c.in-Some.line.now _ c.lines.invariant cut.0 cut.1 (λ is. false-ne_true (c.if-is_same.ensures.1 is))

pub returns : goal.returns
returns c = no_sheet _ _ c.lines.invariant c.in_default.ensures
