use Rattle.std.proofs.Common.{rules, ap}
use Rattle.number_tie.proofs.Moves.{stores}
use Rattle.number_tie.proofs.tie.Tie.agree.Goals as goal

pub store-requires : goal.store-requires
store-requires c = (search rules, search rules, stores _ _ 0 _ (ap (λ m. m.0.parts) c.joined-seat.ensures.both))
