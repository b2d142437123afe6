use Rattle.std.proofs.Common.{◌≡◌, ◌+◌, ◌-◌, ◌≤◌, length}
use Rattle.std.specs.Prelude.{count_by}
use Rattle.std.specs.List.{range_with_len}
use Rattle.sheet_words.specs.Groups.{is_in, members_from}
use Rattle.sheet_words.proofs.members.members_from.Given as goal

abbrev pub invariant-loop-p : goal.invariant-loop-p
invariant-loop-p g l =
    (l.count + count_by (is_in l.fn.row l.group) (range_with_len l.p (length l.fn.row.states - l.p))
    ≡ members_from l.fn.row l.group l.first)
    × (l.count ≤ l.p)
