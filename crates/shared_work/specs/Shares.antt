-- How a list is cut among workers.
use Rattle.std.specs.Prelude.{ℕ, ◌*◌, ◌/◌}

-- the place, from 0, at which share k of a list of `len` begins, of so many shares; share k ends where share k + 1 begins
abbrev pub share : (len k shares : ℕ) → ℕ
share len k shares = len * k / shares
