use Rattle.std.proofs.Common.{◌∙◌, sym, ap, ℕ, List, ◌++◌, get_or, arith}
use Rattle.lot_draw.specs.DrawnLine.{behind}
use Rattle.lot_draw.proofs.Joined.{joined-more}
use Rattle.lot_draw.proofs.line.push_drawn.Goals as goal

pub loop-i-preserved : goal.loop-i-preserved
loop-i-preserved c =
    let order = c.args.order.now in
    let i : ℕ = c.loop-i.i in
    record {
      text =
          c.push_behind.ensures.text
          ∙ ap (λ (l : List ℕ). l ++ behind i (get_or order i 0)) c.loop-i.invariant.text
          ∙ sym (joined-more order i c.loop-i-test.true);
      short = omega (arith, c.push_behind.ensures.short, c.loop-i.invariant.short);
    }
