-- Answers and words of the tool, worked by hand.
use Rattle.std.proofs.Common.{refl, arith, codes}
use Rattle.std.specs.Fmt.{digits}
use Rattle.day_audit.proofs.WorkedWords.{numeral}
use Rattle.day_ballots.specs.Worked.{WorkedAnswers, WorkedLineWords}
use Rattle.day_ballots.proofs.WorkedFreezes.{worked_false_lines, worked_freezes}

pub worked_answers : WorkedAnswers
unfolding digits
worked_answers = record {
  false_so_far = (omega arith, worked_false_lines.missing);
  false_before = (omega arith, worked_false_lines.missing);
  false_behind = λ is. absurd (omega (arith, is.0));
  no_freeze = (refl, worked_freezes.line_2);
  at_another_line = λ is. absurd (omega (arith, is.0));
  false_line = refl;
  no_freeze_line = refl;
}

pub worked_line_words : WorkedLineWords
worked_line_words = record {
  first = (
    codes "1",
    refl,
    numeral 999999999 (codes "1") 1 refl (omega arith) (omega arith) refl (omega arith) (omega arith),
  );
  greatest = (
    codes "999999999",
    refl,
    numeral 999999999 (codes "999999999") 999999999 refl (omega arith) (omega arith) refl (omega arith) (omega arith),
  );
  zeros = (
    codes "004",
    refl,
    numeral 999999999 (codes "004") 4 refl (omega arith) (omega arith) refl (omega arith) (omega arith),
  );
  nought = λ takes. absurd (omega (arith, takes.2.0.least, takes.2.1));
  nothing = λ at takes. let wrong = takes.1 in absurd (cc);
}
