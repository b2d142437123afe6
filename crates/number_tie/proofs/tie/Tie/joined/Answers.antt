use Rattle.std.proofs.Common.{rules, ap, arith}
use Rattle.number_tie.proofs.Moves.{joins}
use Rattle.number_tie.proofs.tie.Tie.joined.Goals as goal

pub join_seat-requires : goal.join_seat-requires
join_seat-requires c =
    let one = ap (λ m. m.0.parts) c.lifted-seat.ensures.half in
    let other = ap (λ m. m.0.parts) c.lifted.ensures.half in
    (search rules, search rules, search rules, search rules, joins _ _ _ _ (omega arith) (omega arith))
