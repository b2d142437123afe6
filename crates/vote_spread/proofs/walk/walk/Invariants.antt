use Rattle.std.proofs.Common.{◌≡◌, ℕ, ◌+◌, ◌<◌, ◌≤◌, drop, length, slice_index, sum}
use Rattle.std.specs.List.{All}
use Rattle.vote_spread.specs.Gain.{gains}
use Rattle.vote_spread.specs.Rows.{seen, total}
use Rattle.vote_spread.proofs.walk.walk.Given as goal

-- what the rows after are still to give is what is missing
abbrev pub invariant-loop-row : goal.invariant-loop-row
invariant-loop-row l =
    let s = l.leaving.one in
    record {
      same_length : length l.tally ≡ length l.fn.tally;
      depths : length l.weights ≡ 251;
      light : All (λ (w : ℕ). w ≤ s) l.weights;
      missing :
          (p : ℕ) → p < length l.fn.tally
          → slice_index l.tally p
          + sum (gains s l.leaving.keeps (p + 1) l.weights (drop l.row-index (seen l.rows)))
          ≡ total s l.leaving.keeps (p + 1) (seen l.rows);
    }
