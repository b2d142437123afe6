-- What holds of every draw.
use Rattle.std.specs.Prelude.{◌≡◌, ℕ, ◌≤◌, List}
use Rattle.plain_ballots.specs.declared.limits.TheConstants.{MOST_CANDIDATES}
use Rattle.lot_order.specs.Lots.{IsOrder}
use Rattle.lot_draw.specs.Draw.{IsDraw}

-- a seed draws one order of so many candidates
abbrev pub SeedsHaveOneDraw : Type 0
SeedsHaveOneDraw =
    (seed : List ℕ) (n : ℕ) (one other : List ℕ) → IsDraw seed n one → IsDraw seed n other → one ≡ other

-- what is drawn is an order of lots
abbrev pub DrawsAreOrders : Type 0
DrawsAreOrders = (seed : List ℕ) (n : ℕ) (order : List ℕ) → n ≤ MOST_CANDIDATES → IsDraw seed n order → IsOrder order
