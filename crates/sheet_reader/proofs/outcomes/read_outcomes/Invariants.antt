use Rattle.std.proofs.Common.{◌≡◌, ◌++◌, length}
use Rattle.std.specs.Prelude.{All}
use Rattle.candidate_roll.specs.declared.limits.TheConstants.{MOST_NAME_BYTES}
use Rattle.candidate_roll.specs.Name.{IsName}
use Rattle.meek_rule.specs.Places.{each_place}
use Rattle.sheet_text.specs.Lines.{outcome_line}
use Rattle.sheet_reader.proofs.outcomes.read_outcomes.Given as goal

abbrev pub invariant-loop-p : goal.invariant-loop-p
invariant-loop-p l = record {
  states : length l.states ≡ l.n;
  names : length l.names ≡ l.p;
  called : All (IsName MOST_NAME_BYTES) l.names;
  read : l.fn.lines ≡ each_place l.p (outcome_line l.states l.names) ++ l.lines;
}
