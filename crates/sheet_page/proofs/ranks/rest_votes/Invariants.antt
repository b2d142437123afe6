use Rattle.std.proofs.Common.{◌≡◌, ◌+◌, ◌*◌, ◌-◌, ◌^◌, ◌≤◌, length}
use Rattle.std.specs.Prelude.{sum_by}
use Rattle.std.specs.List.{range_with_len}
use Rattle.fixed_place.specs.Rounding.{most}
use Rattle.sheet_page.specs.Bars.{rest_vote, rest_votes}
use Rattle.sheet_page.proofs.ranks.rest_votes.Given as goal

abbrev pub invariant-loop-p : goal.invariant-loop-p
invariant-loop-p g l =
    (l.sum + sum_by (rest_vote l.fn.row) (range_with_len l.p (length l.fn.row.votes - l.p)) ≡ rest_votes l.fn.row)
    × (l.sum ≤ l.p * 2 ^ 64)
    × (l.sum ≤ l.p * most g.row.P)
