use Rattle.std.proofs.Common.{◌≡◌, take, true}
use Rattle.ballot_table.specs.Rows.{all_blank}
use Rattle.ballot_table.proofs.sheet.Sheet.is_blank.Given as goal

-- the fields so far are blank
abbrev pub invariant-loop-at : goal.invariant-loop-at
invariant-loop-at l = all_blank (take l.at l.self.texts) ≡ true
