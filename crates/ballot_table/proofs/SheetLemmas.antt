-- The fields of a record, and their texts.
use Rattle.std.proofs.Common.{◌≡◌, ℕ, ◌<◌, List, [], length, get_or}
use Rattle.std.proofs.Common.{All, ap, sym, ◌∙◌, subst, arith}
use Rattle.std.proofs.lemmas.List.{get_or-map, length-map}
use Rattle.std.specs.Prelude.{slice_range}
use Rattle.table_text.specs.declared.cell.Cell.{Cell}
use Rattle.table_text.specs.Reading.{Field, field_text}
use Rattle.table_text.specs.Reader.{IsCellOf, field_at, fields_at}
use Rattle.ballot_table.specs.Sheets.{texts_at}
use Rattle.ballot_table.specs.Texts.{trimmed}

-- as many texts as cells
pub inside_cells : (bytes : List ℕ) (cells : List Cell) (at : ℕ) → at < length (texts_at bytes cells) → at < length cells
inside_cells bytes cells at inside =
    let texts = length-map (fields_at bytes cells) (λ (f : Field). trimmed (field_text f.bytes)) in
    let fields = length-map cells (field_at bytes) in
    omega (arith, inside, texts, fields)

-- the text of the cell at a place
pub text_at : (bytes : List ℕ) (cells items : List Cell) (at : ℕ) (other : Cell) → items ≡ cells
    → at < length (texts_at bytes cells)
    → trimmed (field_text (slice_range bytes (get_or items at other).at (get_or items at other).stop))
    ≡ get_or (texts_at bytes cells) at []
text_at bytes cells items at other same inside =
    let texts = length-map (fields_at bytes cells) (λ (f : Field). trimmed (field_text f.bytes)) in
    let text = λ (f : Field). trimmed (field_text f.bytes) in
    ap (λ (cs : List Cell). text (field_at bytes (get_or cs at other))) same
    ∙ ap text (sym (get_or-map (field_at bytes) cells at other (field_at bytes other) (inside_cells bytes cells at inside)))
    ∙ sym (get_or-map text (fields_at bytes cells) at (field_at bytes other) [] (omega (arith, inside, texts)))

-- the cell at a place
pub cell_at : (bytes : List ℕ) (cells items : List Cell) (at : ℕ) (other : Cell) → items ≡ cells
    → at < length (texts_at bytes cells) → All (IsCellOf bytes) cells → IsCellOf bytes (get_or items at other)
cell_at bytes cells items at other same inside all =
    subst (λ (cs : List Cell). IsCellOf bytes (get_or cs at other)) (sym same)
    (all at other (inside_cells bytes cells at inside))
