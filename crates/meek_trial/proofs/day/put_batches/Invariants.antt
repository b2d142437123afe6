use Rattle.std.proofs.Common.{◌≡◌, ◌+◌, ◌++◌}
use Rattle.meek_trial.specs.Trial.{batches, draws_before, first}
use Rattle.meek_trial.proofs.day.put_batches.Given as goal

abbrev pub invariant-loop-k : goal.invariant-loop-k
invariant-loop-k l = record {
  text : l.text.items ≡ l.fn.text.items ++ batches l.fn.number l.fn.team l.k;
  draws : l.draws ≡ record { number = l.fn.number; taken = draws_before (first l.fn.number l.fn.team + l.k) };
}
