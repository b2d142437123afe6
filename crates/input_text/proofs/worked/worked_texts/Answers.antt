use Rattle.std.proofs.Common.{refl}
use Rattle.input_text.specs.Scan.{cut, piece, number_piece, minus_piece, string_piece, word_piece}
use Rattle.input_text.proofs.worked.worked_texts.Goals as goal

pub returns : goal.returns
unfolding cut piece number_piece minus_piece string_piece word_piece
returns c = record { with_words = refl; without = refl }
