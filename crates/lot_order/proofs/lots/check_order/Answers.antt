use Rattle.std.proofs.Common.{◌≡◌, length, rules}
use Rattle.lot_order.proofs.OrderLemmas.{order-whole, first_missing}
use Rattle.lot_order.proofs.lots.check_order.Goals as goal

pub returns-in-Some-clause-stop : goal.returns-in-Some-clause-stop
returns-in-Some-clause-stop c =
    let same : length c.mark_seen.new.seen ≡ c.args.candidates = search rules in
    first_missing _ _ _ _ same c.in_ok-mark_seen.ensures.sound c.in_ok-mark_seen.ensures.marks c.in-Some.ensures.some

pub returns-in-None-clause-ok : goal.returns-in-None-clause-ok
returns-in-None-clause-ok c =
    let same : length c.mark_seen.new.seen ≡ c.args.candidates = search rules in
    order-whole _ _ _ c.requires same c.in_ok-mark_seen.ensures.sound c.in_ok-mark_seen.ensures.marks c.in-None.ensures.none
