use Rattle.std.proofs.Common.{◌≡◌, ◌≤◌, take}
use Rattle.ballot_table.specs.Texts.{value}
use Rattle.ballot_table.proofs.numeral.value_up_to.Given as goal

-- the number that the digits so far write
abbrev pub invariant-loop-digit : goal.invariant-loop-digit
invariant-loop-digit l = record {
  so_far : l.value ≡ value (take l.digit-index l.digits);
  small : l.value ≤ l.most;
}
