-- Pieces of what is written.
use Rattle.std.specs.Prelude.{ℕ, List, decimal}
use Rattle.sheet_minutes.specs.declared.piece.Piece.{Piece}
use Rattle.sheet_minutes.specs.declared.piece.Piece.TheVariants.{Raw, Plain, Count, RightCount}
use Rattle.sheet_minutes.specs.Columns.{at_right, plain}

abbrev pub piece_text : Piece → List ℕ
piece_text (Raw bytes) = bytes.now
piece_text (Plain text) = plain text.now
piece_text (Count n) = decimal n
piece_text (RightCount width n) = at_right width (decimal n)
