use Rattle.std.proofs.Common.{ℕ, List, All, sym, subst}
use Rattle.ballot_pieces.specs.Found.{IsRead}
use Rattle.ballot_pieces.proofs.Joining.{all_before_last}
use Rattle.ballot_pieces.proofs.found.Found.joined.Goals as goal

pub takes-requires-clause-piece : goal.takes-requires-clause-piece
takes-requires-clause-piece c =
    let P = IsRead c.args.bounds c.args.start.now.tokens.bytes in
    let all =
    all_before_last P c.pop.new.self.items c.in-Some.piece
    (subst (All P) c.in-Some.ensures.items c.loop-piece.invariant.pieces) in
    subst (λ (bytes : List ℕ). IsRead c.args.bounds bytes c.in-Some.piece)
    (sym c.loop-piece.invariant.found.behind.bytes) all.1

pub loop-piece-preserved : goal.loop-piece-preserved
loop-piece-preserved c =
    let P = IsRead c.args.bounds c.args.start.now.tokens.bytes in
    let all =
    all_before_last P c.pop.new.self.items c.in-Some.piece
    (subst (All P) c.in-Some.ensures.items c.loop-piece.invariant.pieces) in
    record {
      found = c.in_ok-takes.ensures c.args.empty c.args.start.now c.loop-piece.invariant.found;
      pieces = all.0;
    }
