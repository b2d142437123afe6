use Rattle.std.proofs.Common.{◌≡◌, ℕ, ◌<◌, get_or}
use Rattle.ballot_table.specs.declared.held.Held.TheVariants.{Nobody}
use Rattle.ballot_table.specs.Held.{IsFreeFrom}
use Rattle.ballot_table.proofs.holders.vacate.Given as goal

-- nobody has one of the ranks so far, nor one after those that are used
abbrev pub invariant-loop-i : goal.invariant-loop-i
invariant-loop-i l = record {
  before : (k : ℕ) → k < l.i → get_or l.held k Nobody ≡ Nobody;
  behind : IsFreeFrom l.used l.held;
}
