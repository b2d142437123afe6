use Rattle.std.proofs.Common.{◌≡◌, take}
use Rattle.ballot_table.proofs.sheet.Sheet.texts.Given as goal

-- the texts of the fields so far
abbrev pub invariant-loop-at : goal.invariant-loop-at
invariant-loop-at l = l.texts ≡ take l.at l.self.texts
