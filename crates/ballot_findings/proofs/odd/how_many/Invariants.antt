use Rattle.std.proofs.Common.{◌≡◌, ◌≤◌, take}
use Rattle.std.specs.List.{count_by}
use Rattle.std.specs.Str.{chars}
use Rattle.ballot_findings.specs.Signs.{has}
use Rattle.ballot_findings.proofs.odd.how_many.Given as goal

abbrev pub invariant-loop-kind : goal.invariant-loop-kind
invariant-loop-kind l = record {
  counted : l.count ≡ count_by (λ kind. has kind (chars l.text)) (take l.kind-index l.kinds);
  few : l.count ≤ l.kind-index;
}
