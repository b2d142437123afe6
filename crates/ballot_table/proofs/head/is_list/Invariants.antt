use Rattle.std.proofs.Common.{◌≡◌, true}
use Rattle.std.specs.List.{list_all}
use Rattle.std.specs.Result.{is_ok}
use Rattle.ballot_table.specs.Asked.{asked_of}
use Rattle.ballot_table.specs.Cells.{says_in}
use Rattle.ballot_table.specs.Texts.{trimmed}
use Rattle.ballot_table.proofs.head.is_list.Given as goal

-- each of the parts so far may be said
abbrev pub invariant-loop-part : goal.invariant-loop-part
invariant-loop-part l = list_all (λ piece. is_ok (says_in (asked_of l.asked) (trimmed piece.now))) l.yielded ≡ true
