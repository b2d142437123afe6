use Rattle.std.proofs.Common.{◌≡◌, ◌+◌, ◌++◌}
use Rattle.meek_trial.specs.Trial.{ballots}
use Rattle.meek_trial.proofs.ballots.put_ballots.Given as goal

abbrev pub invariant-loop-l : goal.invariant-loop-l
invariant-loop-l l = record {
  text : l.text.items ≡ l.fn.text.items ++ ballots l.fn.draws.number l.fn.draws.taken l.l;
  number : l.draws.number ≡ l.fn.draws.number;
  taken : l.draws.taken ≡ l.fn.draws.taken + l.l;
}
