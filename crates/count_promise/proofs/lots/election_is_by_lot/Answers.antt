use Rattle.std.proofs.Common.{◌∙◌, ap, arith, sym, length}
use Rattle.meek_rule.specs.Row.{Row}
use Rattle.count_promise.specs.Lots.{is_seated_by_lot}
use Rattle.count_promise.proofs.Places.{any_here, any_nowhere, none_more}
use Rattle.count_promise.proofs.lots.election_is_by_lot.Goals as goal

pub loop-p-preserved : goal.loop-p-preserved
loop-p-preserved g c =
    none_more (is_seated_by_lot c.args.row.now) c.loop-p.p c.loop-p.invariant
    (sym c.is_seated_by_lot.ensures ∙ c.if-is_seated_by_lot.false)

pub returns-then-is_seated_by_lot : goal.returns-then-is_seated_by_lot
returns-then-is_seated_by_lot g c =
    let size = ap (λ (row : Row). length row.states) c.row.view_is in
    let is = sym c.is_seated_by_lot.ensures ∙ c.if-is_seated_by_lot.true in
    sym (any_here (is_seated_by_lot c.args.row.now) (length c.args.row.now.states) c.loop-p.p (omega (arith, size)) is)

pub returns : goal.returns
returns g c =
    let size = ap (λ (row : Row). length row.states) c.row.view_is in
    sym (any_nowhere (is_seated_by_lot c.args.row.now) (length c.args.row.now.states)
    (λ q below. c.loop-p.invariant q (omega (arith, size))))
