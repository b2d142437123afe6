-- Pieces of what is written. 60 is `<`, and 62 is `>`.
use Rattle.std.specs.Prelude.{ℕ, List, [], ◌∷◌, decimal}
use Rattle.page_tree.specs.Print.{attribute_text, opening, closing, shown}
use Rattle.sheet_page.specs.declared.piece.Piece.{Piece}
use Rattle.sheet_page.specs.declared.piece.Piece.TheVariants.{Raw, Number, Quoted, Start, End, Text, Begin, With, Within}
use Rattle.sheet_page.specs.Cells.{cell_text}
use Rattle.sheet_page.specs.JsonText.{string_text}

abbrev pub piece_text : (places : ℕ) → Piece places → List ℕ
piece_text places (Raw bytes) = bytes.now
piece_text places (Number n) = decimal n
piece_text places (Quoted cell) = string_text (cell_text places cell)
piece_text places (Start name) = opening name.now []
piece_text places (End name) = closing name.now
piece_text places (Text cell) = shown (cell_text places cell)
piece_text places (Begin name) = 60 ∷ name.now
piece_text places (With name cell) = attribute_text (record { name = name.now; value = cell_text places cell })
piece_text places Within = 62 ∷ []
