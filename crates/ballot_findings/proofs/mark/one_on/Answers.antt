use Rattle.std.proofs.Common.{◌∙◌, ℕ, ◌+◌, ap, arith, sym}
use Rattle.std.specs.Prelude.{if◌then◌else◌, slice_index}
use Rattle.ballot_findings.specs.Places.{is_break}
use Rattle.ballot_findings.proofs.Marks.{column_more, line_more}
use Rattle.ballot_findings.proofs.mark.one_on.Goals as goal

pub returns-clause-is : goal.returns-clause-is
returns-clause-is c =
    let text = c.args.text.now in
    let at = c.args.mark.at in
    record {
      inside = omega arith;
      line =
          let more = line_more text at in
          let ended = c.lines_ended.ensures.value in
          let was = c.requires.is.line in
          omega (arith, more, ended, was);
      column =
          c.column_after.ensures.value
          ∙ (ap (λ (n : ℕ). if is_break (slice_index text at) then 1 else n + 1) c.requires.is.column
          ∙ sym (column_more text at c.requires.inside));
      few_lines = omega (arith, c.lines_ended.ensures.few, c.requires.is.few_lines);
      few_columns = omega (arith, c.column_after.ensures.few, c.requires.is.few_columns);
    }
