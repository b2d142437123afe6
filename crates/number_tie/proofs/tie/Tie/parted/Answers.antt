use Rattle.std.proofs.Common.{rules, ap}
use Rattle.number_tie.proofs.Moves.{splits}
use Rattle.number_tie.proofs.tie.Tie.parted.Goals as goal

pub split_seat-other-requires : goal.split_seat-other-requires
split_seat-other-requires c = (search rules, search rules, splits _ _ (ap (λ m. m.0.parts) c.requires.both))
