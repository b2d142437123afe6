use Rattle.std.proofs.Common.{◌≡◌, ◌-◌, length}
use Rattle.std.specs.List.{range_with_len}
use Rattle.ballot_findings.specs.Unseen.{first_lone, return_lines}
use Rattle.ballot_findings.proofs.unseen.push_return.Given as goal

abbrev pub invariant-loop-place : goal.invariant-loop-place
invariant-loop-place l = record {
  text : l.text ≡ l.fn.text;
  same : first_lone l.input (range_with_len l.place (length l.input - l.place)) ≡ return_lines l.input;
}
