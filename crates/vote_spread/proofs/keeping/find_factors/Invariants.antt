use Rattle.std.proofs.Common.{◌≡◌, ℕ, ◌<◌, slice_index}
use Rattle.vote_spread.specs.Factor.{factor_of}
use Rattle.vote_spread.proofs.keeping.find_factors.Given as goal

abbrev pub invariant-loop-i : goal.invariant-loop-i
invariant-loop-i l = (k : ℕ) → k < l.i → slice_index l.factors k ≡ factor_of l.one (slice_index l.keeps k)
