use Rattle.std.proofs.Common.{◌≡◌, ◌+◌, ◌-◌, ◌≤◌, length}
use Rattle.std.specs.Prelude.{count_by}
use Rattle.std.specs.List.{range_with_len}
use Rattle.sheet_page.specs.Bars.{stands, standing_count}
use Rattle.sheet_page.proofs.ranks.standing_count.Given as goal

abbrev pub invariant-loop-p : goal.invariant-loop-p
invariant-loop-p g l =
    (l.count + count_by (stands l.fn.row) (range_with_len l.p (length l.fn.row.votes - l.p)) ≡ standing_count l.fn.row)
    × (l.count ≤ l.p)
