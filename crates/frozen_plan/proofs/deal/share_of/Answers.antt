use Rattle.std.proofs.Common.{◌+◌, arith, sym, subst, ◌∙◌}
use Rattle.std.proofs.Math.Nat.{mod-eq_of_lt, add-mod_right}
use Rattle.frozen_plan.proofs.TurnLemmas.{AreOwn, none_own, one_own, all_own}
use Rattle.frozen_plan.proofs.deal.share_of.Goals as goal

pub loop-i-init : goal.loop-i-init
loop-i-init c = record {
  turn = mod-eq_of_lt c.requires.turn;
  own = λ bytes. subst (AreOwn bytes c.args.shards c.args.turn c.args.turn c.args.lines.now) (sym c.in_ok-own.ensures.items)
      (none_own bytes c.args.shards c.args.turn c.args.lines.now c.requires.turn);
}

pub loop-i-preserved : goal.loop-i-preserved
loop-i-preserved c =
    let n = c.args.shards in
    let turn = c.args.turn in
    let i = c.loop-i.i in
    let inv = c.loop-i.invariant in
    record {
      turn = add-mod_right i n ∙ inv.turn;
      own = λ bytes. subst (AreOwn bytes n turn (i + n) c.args.lines.now) (sym c.in_ok-push.ensures.items)
          (one_own bytes n turn i c.args.lines.now c.loop-i.own.items c.loop-i-test.true (omega (arith, c.requires.turn))
          inv.turn (inv.own bytes));
    }

pub returns : goal.returns
returns c = λ bytes.
    all_own bytes c.args.shards c.args.turn c.loop-i.i c.args.lines.now c.loop-i.own.items
    (omega (arith, c.loop-i-test.false)) (c.loop-i.invariant.own bytes)
