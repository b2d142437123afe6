use Rattle.std.proofs.Common.{ap}
use Rattle.day_reader.specs.declared.day.Day.{Day}
use Rattle.day_replay.proofs.trial_judging.judge_trial.Goals as goal

pub judge_made-requires-clause-made : goal.judge_made-requires-clause-made
judge_made-requires-clause-made g c κs within = ap (λ (d : Day). d.scripts) c.in_ok-roll.ensures.made
