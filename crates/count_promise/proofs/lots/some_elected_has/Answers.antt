use Rattle.std.proofs.Common.{◌∙◌, ap, arith, sym, length}
use Rattle.meek_rule.specs.Row.{Row}
use Rattle.count_promise.specs.Lots.{elects}
use Rattle.count_promise.proofs.Places.{any_here, any_nowhere, none_more}
use Rattle.count_promise.proofs.lots.some_elected_has.Goals as goal

pub loop-p-preserved : goal.loop-p-preserved
loop-p-preserved g c =
    none_more (elects c.args.row.now c.args.vote) c.loop-p.p c.loop-p.invariant (sym c.elects.ensures ∙ c.if-elects.false)

pub returns-then-elects : goal.returns-then-elects
returns-then-elects g c =
    let size = ap (λ (row : Row). length row.states) c.row.view_is in
    let is = sym c.elects.ensures ∙ c.if-elects.true in
    sym (any_here (elects c.args.row.now c.args.vote) (length c.args.row.now.states) c.loop-p.p (omega (arith, size)) is)

pub returns : goal.returns
returns g c =
    let size = ap (λ (row : Row). length row.states) c.row.view_is in
    sym (any_nowhere (elects c.args.row.now c.args.vote) (length c.args.row.now.states)
    (λ q below. c.loop-p.invariant q (omega (arith, size))))
