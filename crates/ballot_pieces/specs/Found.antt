-- What a worker reads of ballot lines.
use Rattle.std.specs.Prelude.{◌≡◌, ℕ, List, [], IsPermutation, IfSome}
use Rattle.plain_ballots.specs.Ballots.{BallotList, plain}
use Rattle.plain_ballots.specs.declared.ballot_line.BallotLine.{BallotLine}
use Rattle.input_text.specs.Token.{Scan}
use Rattle.input_text.specs.Reads.{IsBehind}
use Rattle.blt_reader.specs.declared.line_bounds.LineBounds.{LineBounds}
use Rattle.blt_reader.specs.Pieces.{counted, ReadsPiece}
use Rattle.ballot_pieces.specs.declared.at_count.AtCount.{AtCount}
use Rattle.ballot_pieces.specs.declared.found.Found.{Found}
use Rattle.ballot_pieces.specs.declared.piece.Piece.{Piece}

-- no ballots among so many candidates
abbrev pub no_ballots : ℕ → BallotList
no_ballots candidates = record { candidates = candidates; lines = [] }

-- packed ballots are those of these lines
abbrev pub holds : BallotList → List BallotLine → Type 0
holds packed lines = IsPermutation (plain packed.lines) (plain lines)

-- the text from a count on
abbrev pub text_from : AtCount → Scan
text_from place = counted place.count place.tokens.rest

-- Lines were read from one count to another, and put to those that the store had.
pub record IsFound (bounds : LineBounds) (store : BallotList) (from : AtCount) (found : Found) : Type 0 where
  pub candidates : found.ballots.candidates ≡ bounds.candidates
  pub reads : ReadsPiece holds bounds store (text_from from) found.ballots (text_from found.to)
  pub behind : IsBehind from.tokens found.to.tokens

-- a piece of this input
abbrev pub IsOf : List ℕ → Piece → Type 0
IsOf bytes piece = piece.from.tokens.bytes ≡ bytes

-- A piece of this input, and what was found is what is read from where it begins, from no ballots on.
pub record IsRead (bounds : LineBounds) (bytes : List ℕ) (piece : Piece) : Type 0 where
  pub of : IsOf bytes piece
  pub found : IfSome piece.found (IsFound bounds (no_ballots bounds.candidates) piece.from)

-- the same piece, read
pub record IsReadOf (bounds : LineBounds) (old new : Piece) : Type 0 where
  pub same : new.from ≡ old.from
  pub found : IfSome new.found (IsFound bounds (no_ballots bounds.candidates) old.from)
