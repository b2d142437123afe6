use Rattle.sheet_text.proofs.WritingLemmas.{all-Writes, front-Writes, faults-Writes}
use Rattle.sheet_text.proofs.outcome.write_result.Goals as goal

pub returns : goal.returns
returns g c = record {
  all = all-Writes _ _ _ _ _ _ c.write_result_by.ensures;
  front = front-Writes _ _ _ _ _ _ c.write_result_by.ensures;
  faults = faults-Writes _ _ _ _ _ _ c.write_result_by.ensures;
}
