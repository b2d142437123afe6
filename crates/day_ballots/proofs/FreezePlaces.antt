-- The places of a history's freezes.
use Rattle.std.proofs.Common.{ℕ, ◌-◌, ◌≤◌, List, length, arith}
use Rattle.batch_core.specs.declared.entry.Entry.{Entry}
use Rattle.day_replay.proofs.Lists.{inside}
use Rattle.day_ballots.specs.Along.{IsFreezeAt}

-- a freeze is one of the calls
pub within : (history : List Entry) (n : ℕ) → IsFreezeAt history n → n ≤ length history
within history n at =
    let below = inside history (n - 1) at.entry at.there in
    let some = at.some in
    omega (arith, below, some)
