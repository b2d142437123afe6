use Rattle.std.proofs.Common.{rules, ap}
use Rattle.number_tie.proofs.Moves.{stores}
use Rattle.number_tie.proofs.tie.Tie.raise.Goals as goal

pub store-requires : goal.store-requires
store-requires c = (search rules, search rules, stores _ _ 1 _ (ap (λ m. m.0.parts) c.joined-seat.ensures.both))
