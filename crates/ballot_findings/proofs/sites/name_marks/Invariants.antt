use Rattle.std.proofs.Common.{◌≡◌, drop}
use Rattle.ballot_findings.specs.Places.{IsMark}
use Rattle.ballot_findings.specs.Sites.{AreNameMarks, strings, tokens_of}
use Rattle.ballot_findings.proofs.sites.name_marks.Given as goal

abbrev pub invariant-loop : goal.invariant-loop
invariant-loop l = record {
  mark : IsMark l.input l.mark;
  rest : strings l.tokens.rest.tokens ≡ drop l.counter (strings (tokens_of l.input));
  marks : AreNameMarks l.input l.counter l.marks.items;
}
