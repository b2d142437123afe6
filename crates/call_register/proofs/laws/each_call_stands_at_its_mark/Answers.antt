use Rattle.std.proofs.Common.{[]}
use Rattle.call_register.proofs.Places.{length_woven, change_at, freeze_at, strike_at}
use Rattle.call_register.proofs.laws.each_call_stands_at_its_mark.Goals as goal

pub returns : goal.returns
returns c = record {
  length = length_woven [];
  change = change_at;
  freeze = freeze_at;
  strike = strike_at;
}
