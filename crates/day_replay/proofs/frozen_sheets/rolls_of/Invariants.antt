use Rattle.std.proofs.Common.{◌≡◌, map, take}
use Rattle.day_sheets.proofs.DaySheets.{roll_of}
use Rattle.day_replay.proofs.frozen_sheets.rolls_of.Given as goal

abbrev pub invariant-loop-version : goal.invariant-loop-version
invariant-loop-version l = l.rolls.items ≡ map (roll_of l.roll) (take l.version-index l.frozen)
