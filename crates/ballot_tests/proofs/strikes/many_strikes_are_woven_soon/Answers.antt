use Rattle.std.proofs.Common.{◌∙◌}
use Rattle.ballot_tests.proofs.ManyMarks.{no_shard_has_entries}
use Rattle.ballot_tests.proofs.strikes.many_strikes_are_woven_soon.Goals as goal

pub weave-requires : goal.weave-requires
weave-requires g c s = c.in_ok-marks.ensures s ∙ no_shard_has_entries c.new.result c.new.ensures s
