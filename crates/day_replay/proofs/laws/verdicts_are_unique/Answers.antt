use Rattle.day_replay.specs.Judged.{IsTextOf, IsSummaryOf}
use Rattle.day_replay.proofs.DayVerdicts.{one_verdict}
use Rattle.day_replay.proofs.laws.verdicts_are_unique.Goals as goal

pub returns-clause-texts : goal.returns-clause-texts
returns-clause-texts c = λ day. one_verdict (IsTextOf day)

pub returns-clause-summaries : goal.returns-clause-summaries
returns-clause-summaries c = λ number. one_verdict (IsSummaryOf number)
