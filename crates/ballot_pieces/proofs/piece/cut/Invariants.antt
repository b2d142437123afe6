use Rattle.std.proofs.Common.{All}
use Rattle.ballot_pieces.specs.Found.{IsOf}
use Rattle.ballot_pieces.proofs.piece.cut.Given as goal

abbrev pub invariant-loop-k : goal.invariant-loop-k
invariant-loop-k l = All (IsOf l.start.tokens.bytes) l.cut.items
