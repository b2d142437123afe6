use Rattle.std.proofs.Common.{◌≡◌, ◌≤◌}
use Rattle.std.specs.Prelude.{not}
use Rattle.std.specs.List.{count_by, range_with_len}
use Rattle.candidate_roll.specs.Roll.{is_withdrawn}
use Rattle.ballot_findings.proofs.lines.running.Given as goal

abbrev pub invariant-loop-p : goal.invariant-loop-p
invariant-loop-p l = record {
  counted : l.running ≡ count_by (λ c. not (is_withdrawn l.fn.roll.withdrawn c)) (range_with_len 1 l.p);
  few : l.running ≤ l.p;
}
