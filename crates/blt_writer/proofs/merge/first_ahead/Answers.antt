use Rattle.std.proofs.Common.{◌∙◌, sym, subst, ℕ, ◌+◌, arith}
use Rattle.blt_writer.proofs.LeastLemmas.{NoneAhead, none_yet, none_takes, none_keeps}
use Rattle.blt_writer.proofs.merge.first_ahead.Goals as goal
use Rattle.blt_writer.proofs.merge.first_ahead.Goals.{then-is_ahead, else-is_ahead}

pub loop-at-init : goal.loop-at-init
loop-at-init c = record { inside = omega arith; first = none_yet c.args.cursors.now }

pub loop-at-preserved : goal.loop-at-preserved
loop-at-preserved c =
    let lists = c.args.cursors.now in
    let at : ℕ = c.loop-at.at in
    let inv = c.loop-at.invariant in
    let x = c.index-cursors-at.result in
    let y = c.index-cursors-first.result in
    elim c.if-is_ahead.branch [
      | then-is_ahead w ↦ record {
        inside = omega (arith, w.first-is);
        first =
            subst (NoneAhead lists (at + 1)) (sym w.first-is)
            (none_takes lists at c.loop-at.first x y (omega arith) inv.inside c.index-cursors-at.is
            c.index-cursors-first.is (sym c.is_ahead.ensures ∙ w.if-is_ahead.true) inv.first);
      }
      | else-is_ahead w ↦ record {
        inside = omega (arith, w.first-is, inv.inside);
        first =
            subst (NoneAhead lists (at + 1)) (sym w.first-is)
            (none_keeps lists at c.loop-at.first x y (omega arith) inv.inside c.index-cursors-at.is
            c.index-cursors-first.is (sym c.is_ahead.ensures ∙ w.if-is_ahead.false) inv.first);
      }
    ]
