use Rattle.std.proofs.Common.{◌∙◌, ap, sym, arith, length}
use Rattle.meek_rule.specs.Row.{Row}
use Rattle.sheet_page.specs.Bars.{stands}
use Rattle.sheet_page.proofs.Sums.{count_yes, count_no, count_past}
use Rattle.sheet_page.proofs.ranks.standing_count.Goals.{then-stands, else-stands}
use Rattle.sheet_page.proofs.ranks.standing_count.Goals as goal

pub loop-p-preserved : goal.loop-p-preserved
loop-p-preserved g c =
    let size = ap (λ (row : Row). length row.votes) c.row.view_is in
    let n = length c.args.row.now.votes in
    let test = stands c.args.row.now in
    elim c.if-stands.branch [
      | then-stands w ↦
          let here = count_yes test c.loop-p.p n (omega (arith, size)) (sym c.stands.ensures ∙ w.if-stands.true) in
          (omega (arith, here, w.count-is, c.loop-p.invariant.0), omega (arith, w.count-is, c.loop-p.invariant.1))
      | else-stands w ↦
          let here = count_no test c.loop-p.p n (omega (arith, size)) (sym c.stands.ensures ∙ w.if-stands.false) in
          (omega (arith, here, w.count-is, c.loop-p.invariant.0), omega (arith, w.count-is, c.loop-p.invariant.1))
    ]

pub returns-clause-count : goal.returns-clause-count
returns-clause-count g c =
    let size = ap (λ (row : Row). length row.votes) c.row.view_is in
    let past = count_past (stands c.args.row.now) c.loop-p.p (length c.args.row.now.votes) (omega (arith, size)) in
    omega (arith, past, c.loop-p.invariant.0)

pub returns-clause-few : goal.returns-clause-few
returns-clause-few g c =
    let size = ap (λ (row : Row). length row.votes) c.row.view_is in
    omega (arith, size, c.loop-p.invariant.1)
