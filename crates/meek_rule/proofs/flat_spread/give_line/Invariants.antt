use Rattle.std.proofs.Common.{◌≡◌, ℕ, ◌+◌, ◌*◌, ◌<◌, ◌≤◌, length, slice_index, drop}
use Rattle.fixed_place.specs.Rounding.{scale}
use Rattle.meek_rule.specs.Weights.{given}
use Rattle.meek_rule.proofs.flat_spread.give_line.Given as goal

-- what the ranks after are still to give is what is missing
abbrev pub invariant-loop-rank : goal.invariant-loop-rank
invariant-loop-rank g l =
    let s = scale g.row.P in
    record {
      light : l.weight ≤ s;
      same_length : length l.tally ≡ length l.fn.tally;
      missing :
          (p : ℕ) → p < length l.fn.tally
          → slice_index l.tally p + l.count * given s l.keeps l.weight (drop l.rank-index l.ranks) (p + 1)
          ≡ slice_index l.fn.tally p + l.count * given s l.keeps s l.ranks (p + 1);
    }
