use Rattle.std.proofs.Common.{refl}
use Rattle.std.specs.Fmt.{digits}
use Rattle.fixed_place.specs.Text.{text_of, last_digits}
use Rattle.meek_count.proofs.WorkedHolds.{SampleElection-holds}
use Rattle.sheet_text.specs.Lines.{candidate_line, outcome_line, step_line}
use Rattle.sheet_text.proofs.SampleRows.{sample_rows, sample_last}
use Rattle.sheet_text.proofs.worked.worked_sheet.Goals as goal

pub returns : goal.returns
unfolding candidate_line outcome_line step_line text_of last_digits digits
returns c = (sample_rows, sample_last, SampleElection-holds, refl)
