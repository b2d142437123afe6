-- Values as text.
use Rattle.std.specs.Prelude.{ℕ, List, decimal}
use Rattle.fixed_place.specs.Text.{text_of}
use Rattle.sheet_page.specs.declared.cell.Cell.{Cell}
use Rattle.sheet_page.specs.declared.cell.Cell.TheVariants.{Bytes, Count, Amount}

abbrev pub cell_text : (places : ℕ) → Cell places → List ℕ
cell_text places (Bytes bytes) = bytes.now
cell_text places (Count n) = decimal n
cell_text places (Amount a) = text_of places a
