use Rattle.std.proofs.Common.{◌≡◌, ◌+◌, ◌-◌, ◌≤◌, length}
use Rattle.std.specs.Prelude.{count_by}
use Rattle.std.specs.List.{range_with_len}
use Rattle.sheet_page.specs.Bars.{comes_before, bars_before}
use Rattle.sheet_page.proofs.ranks.bars_before.Given as goal

abbrev pub invariant-loop-q : goal.invariant-loop-q
invariant-loop-q g l =
    (l.count + count_by (comes_before l.fn.row l.fn.p) (range_with_len l.q (length l.fn.row.votes - l.q)) ≡ bars_before l.fn.row l.fn.p)
    × (l.count ≤ l.q)
