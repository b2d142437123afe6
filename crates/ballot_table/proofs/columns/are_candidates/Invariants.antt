use Rattle.std.proofs.Common.{◌≡◌, ◌↔◌, All, take}
use Rattle.std.specs.Bool.{IsTrue}
use Rattle.ballot_table.specs.Finding.{candidates_at}
use Rattle.ballot_table.proofs.columns.are_candidates.Given as goal

-- each of the columns so far is a candidate's
abbrev pub invariant-loop-column : goal.invariant-loop-column
invariant-loop-column l =
    IsTrue l.are_candidates ↔ All (λ column. candidates_at column ≡ 1) (take l.column-index l.columns)
