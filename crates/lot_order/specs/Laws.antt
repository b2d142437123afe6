-- What holds of every order of lots.
use Rattle.std.specs.Prelude.{◌≡◌, ◌≢◌, ℕ, ◌-◌, ◌<◌, ◌≤◌, Bool, true, List, length}
use Rattle.lot_order.specs.Flags.{mark_at}
use Rattle.lot_order.specs.declared.lots_stop.LotsStop.{LotsStop}
use Rattle.lot_order.specs.Lots.{IsOrder, IsLotsStop, first_marked, place_in}

-- There is one answer at most: an order can't be refused for two reasons, nor at two places.
abbrev pub HasOneRefusal : Type 0
HasOneRefusal =
    (n : ℕ) (order : List ℕ) (one other : LotsStop)
    → IsLotsStop n order one → IsLotsStop n order other → one ≡ other

-- Each other marked candidate stands after the first of the marked.
abbrev pub FirstMarkedComesFirst : Type 0
FirstMarkedComesFirst =
    (order : List ℕ) (marks : List Bool) (c : ℕ)
    → IsOrder order → length marks ≡ length order
    → 1 ≤ c → mark_at marks (c - 1) ≡ true → c ≢ first_marked order marks
    → place_in order (first_marked order marks) < place_in order c
