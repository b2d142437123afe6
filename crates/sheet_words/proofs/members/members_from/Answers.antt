use Rattle.std.proofs.Common.{◌∙◌, ap, sym, arith, length}
use Rattle.meek_rule.specs.Row.{Row}
use Rattle.sheet_words.specs.Groups.{is_in}
use Rattle.sheet_words.proofs.Places.{count_yes, count_no, count_past}
use Rattle.sheet_words.proofs.members.members_from.Goals.{then-is_in, else-is_in}
use Rattle.sheet_words.proofs.members.members_from.Goals as goal

pub loop-p-preserved : goal.loop-p-preserved
loop-p-preserved g c =
    let size = ap (λ (row : Row). length row.states) c.row.view_is in
    let n = length c.args.row.now.states in
    let test = is_in c.args.row.now c.args.group in
    elim c.if-is_in.branch [
      | then-is_in w ↦
          let here = count_yes test c.loop-p.p n (omega (arith, size)) (sym c.is_in.ensures ∙ w.if-is_in.true) in
          (omega (arith, here, w.count-is, c.loop-p.invariant.0), omega (arith, w.count-is, c.loop-p.invariant.1))
      | else-is_in w ↦
          let here = count_no test c.loop-p.p n (omega (arith, size)) (sym c.is_in.ensures ∙ w.if-is_in.false) in
          (omega (arith, here, w.count-is, c.loop-p.invariant.0), omega (arith, w.count-is, c.loop-p.invariant.1))
    ]

pub returns : goal.returns
returns g c =
    let size = ap (λ (row : Row). length row.states) c.row.view_is in
    let past =
    count_past (is_in c.args.row.now c.args.group) c.loop-p.p (length c.args.row.now.states) (omega (arith, size)) in
    omega (arith, past, c.loop-p.invariant.0)
