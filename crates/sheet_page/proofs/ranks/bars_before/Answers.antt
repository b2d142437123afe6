use Rattle.std.proofs.Common.{◌∙◌, ap, sym, arith, length}
use Rattle.meek_rule.specs.Row.{Row}
use Rattle.sheet_page.specs.Bars.{comes_before}
use Rattle.sheet_page.proofs.Sums.{count_yes, count_no, count_past}
use Rattle.sheet_page.proofs.ranks.bars_before.Goals.{then-comes_before, else-comes_before}
use Rattle.sheet_page.proofs.ranks.bars_before.Goals as goal

pub loop-q-preserved : goal.loop-q-preserved
loop-q-preserved g c =
    let size = ap (λ (row : Row). length row.votes) c.row.view_is in
    let n = length c.args.row.now.votes in
    let test = comes_before c.args.row.now c.args.p in
    elim c.if-comes_before.branch [
      | then-comes_before w ↦
          let here = count_yes test c.loop-q.q n (omega (arith, size)) (sym c.comes_before.ensures ∙ w.if-comes_before.true) in
          (omega (arith, here, w.count-is, c.loop-q.invariant.0), omega (arith, w.count-is, c.loop-q.invariant.1))
      | else-comes_before w ↦
          let here = count_no test c.loop-q.q n (omega (arith, size)) (sym c.comes_before.ensures ∙ w.if-comes_before.false) in
          (omega (arith, here, w.count-is, c.loop-q.invariant.0), omega (arith, w.count-is, c.loop-q.invariant.1))
    ]

pub returns-clause-count : goal.returns-clause-count
returns-clause-count g c =
    let size = ap (λ (row : Row). length row.votes) c.row.view_is in
    let past = count_past (comes_before c.args.row.now c.args.p) c.loop-q.q (length c.args.row.now.votes) (omega (arith, size)) in
    omega (arith, past, c.loop-q.invariant.0)

pub returns-clause-few : goal.returns-clause-few
returns-clause-few g c =
    let size = ap (λ (row : Row). length row.votes) c.row.view_is in
    omega (arith, size, c.loop-q.invariant.1)
