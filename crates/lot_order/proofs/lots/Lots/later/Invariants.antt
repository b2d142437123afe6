use Rattle.std.proofs.Common.{◌≡◌, nat_lt, drop}
use Rattle.lot_order.specs.Lots.{place_in}
use Rattle.lot_order.proofs.lots.Lots.later.Given as goal

abbrev pub invariant-loop-c : goal.invariant-loop-c
invariant-loop-c l =
    nat_lt (place_in (drop l.c-index l.c-items) l.b) (place_in (drop l.c-index l.c-items) l.a)
    ≡ nat_lt (place_in l.c-items l.b) (place_in l.c-items l.a)
