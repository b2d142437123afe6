use Rattle.batch_core.proofs.LawfulLemmas.{kept_all, standing_total_after}
use Rattle.batch_core.proofs.StandingLemmas.{standing_change}
use Rattle.batch_core.proofs.laws.lawful_calls_leave_lawful_batches.Goals as goal

pub returns : goal.returns
returns c = record {
  numbered = kept_all;
  few = standing_total_after;
  replaced = standing_change;
}
