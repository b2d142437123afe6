use Rattle.std.proofs.Common.{All, length, ap, sym, subst, arith}
use Rattle.ballot_pieces.specs.Found.{IsOf, IsRead}
use Rattle.ballot_pieces.proofs.Joining.{all_kept}
use Rattle.ballot_pieces.proofs.pieces.read_from.Goals as goal

pub joined-requires-clause-pieces : goal.joined-requires-clause-pieces
joined-requires-clause-pieces g c =
    let bytes = c.args.start.now.tokens.bytes in
    let cut = subst (All (IsOf bytes)) (sym c.as_mut_slice.ensures.value) c.in_ok-pieces.ensures in
    all_kept (IsRead c.args.bounds bytes) c.read_each.new.pieces c.in_ok-pieces.pieces.items
    c.in_ok-pieces.pieces.len (omega (arith, c.read_each.ensures.as_many, ap length c.as_mut_slice.ensures.value))
    (omega (arith, c.in_ok-pieces.pieces.ok.0)) (c.read_each.ensures.pieces bytes cut)
