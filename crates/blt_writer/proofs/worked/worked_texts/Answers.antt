use Rattle.std.proofs.Common.{refl}
use Rattle.std.specs.Fmt.{digits}
use Rattle.blt_writer.specs.Worked.{sample_ballots, two_lines, wide_ballots}
use Rattle.blt_writer.proofs.EveryText.{lines_of, are_lines_of}
use Rattle.blt_writer.proofs.worked.worked_texts.Goals as goal

pub returns : goal.returns
unfolding digits
returns c = record {
  sample = (lines_of sample_ballots, are_lines_of sample_ballots, refl);
  together = (lines_of two_lines, are_lines_of two_lines, refl);
  wide = (lines_of wide_ballots, are_lines_of wide_ballots, refl);
}
