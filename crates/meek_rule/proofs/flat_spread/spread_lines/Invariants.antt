use Rattle.std.proofs.Common.{◌≡◌, ℕ, ◌+◌, ◌*◌, ◌<◌, length, slice_index, take, sum_by}
use Rattle.fixed_place.specs.Rounding.{scale}
use Rattle.plain_ballots.specs.declared.ballot_line.BallotLine.{BallotLine}
use Rattle.meek_rule.specs.Weights.{given}
use Rattle.meek_rule.proofs.flat_spread.spread_lines.Given as goal

abbrev pub invariant-loop-i : goal.invariant-loop-i
invariant-loop-i g l = record {
  same_length : length l.tally ≡ length l.fn.tally;
  cleared : (p : ℕ) → p < l.i → slice_index l.tally p ≡ 0;
}

-- each candidate has what the lines so far give to it
abbrev pub invariant-loop-line : goal.invariant-loop-line
invariant-loop-line g l =
    let s = scale g.row.P in
    record {
      same_length : length l.tally ≡ length l.fn.tally;
      so_far :
          (p : ℕ) → p < length l.fn.tally
          → slice_index l.tally p
          ≡ sum_by (λ (line : BallotLine). line.count * given s l.keeps s line.ranking (p + 1))
          (take l.line-index l.lines);
    }
