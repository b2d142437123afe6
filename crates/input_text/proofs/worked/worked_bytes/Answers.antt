use Rattle.std.proofs.Common.{refl}
use Rattle.input_text.specs.Scan.{cut, piece, number_piece, minus_piece, string_piece, word_piece}
use Rattle.input_text.proofs.worked.worked_bytes.Goals as goal

pub returns-clause-start : goal.returns-clause-start
unfolding cut piece number_piece minus_piece string_piece word_piece
returns-clause-start c = refl

pub returns-clause-start_without_words : goal.returns-clause-start_without_words
unfolding cut piece number_piece minus_piece string_piece word_piece
returns-clause-start_without_words c = refl

pub returns-clause-behind_a_number : goal.returns-clause-behind_a_number
unfolding cut piece number_piece minus_piece string_piece word_piece
returns-clause-behind_a_number c = refl

pub returns-clause-behind_a_string : goal.returns-clause-behind_a_string
unfolding cut piece number_piece minus_piece string_piece word_piece
returns-clause-behind_a_string c = refl

pub returns-clause-in_a_string : goal.returns-clause-in_a_string
unfolding cut piece number_piece minus_piece string_piece word_piece
returns-clause-in_a_string c = refl

pub returns-clause-in_a_comment : goal.returns-clause-in_a_comment
unfolding cut piece number_piece minus_piece string_piece word_piece
returns-clause-in_a_comment c = refl

pub returns-clause-marks : goal.returns-clause-marks
unfolding cut piece number_piece minus_piece string_piece word_piece
returns-clause-marks c = record { twice = refl; late = refl }
