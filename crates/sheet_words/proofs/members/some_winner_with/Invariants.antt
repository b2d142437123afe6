use Rattle.std.proofs.Common.{◌≡◌, ◌-◌, length}
use Rattle.std.specs.List.{list_any, range_with_len}
use Rattle.sheet_words.specs.Groups.{wins_with, all_places}
use Rattle.sheet_words.proofs.members.some_winner_with.Given as goal

abbrev pub invariant-loop-p : goal.invariant-loop-p
invariant-loop-p g l =
    list_any (wins_with l.fn.row l.vote) (range_with_len l.p (length l.fn.row.states - l.p))
    ≡ list_any (wins_with l.fn.row l.vote) (all_places (length l.fn.row.states))
