use Rattle.std.proofs.Common.{All, vec_len}
use Rattle.ballot_pieces.specs.Found.{IsFound, IsRead}
use Rattle.ballot_pieces.proofs.found.Found.joined.Given as goal

abbrev pub invariant-loop-piece : goal.invariant-loop-piece
invariant-loop-piece l =
    record {
      found : IsFound l.bounds l.fn.empty l.start l.found;
      pieces : All (IsRead l.bounds l.start.tokens.bytes) l.pieces.items;
    }

abbrev pub decreases-loop-piece : goal.decreases-loop-piece
decreases-loop-piece l = vec_len l.pieces
