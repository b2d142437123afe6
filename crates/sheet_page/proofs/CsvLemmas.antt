-- Records as they are written.
use Rattle.std.proofs.Common.{◌≡◌, ◌∙◌, sym, refl, ap, ℕ, List, [], ◌∷◌, ◌++◌, length, map, append_assoc, append-nil}
use Rattle.std.specs.List.{flat_map, join_with_byte}
use Rattle.std.proofs.lemmas.List.Concat.{flat_map-append}
use Rattle.std.proofs.lemmas.List.Folds.{flat_map-map}
use Rattle.csv_text.specs.Csv.{behind_comma, field_text, record_text, csv_text}
use Rattle.meek_rule.specs.Row.{Row}
use Rattle.sheet_reader.specs.Values.{SheetList}
use Rattle.sheet_page.specs.declared.cell.Cell.{Cell}
use Rattle.sheet_page.specs.Cells.{cell_text}
use Rattle.sheet_page.specs.Csv.{csv_head, csv_record, row_records, csv_of}
use Rattle.sheet_page.specs.Values.{all_places}

fields-joined :
    (places : ℕ) (field : List ℕ) (others : List (Cell places))
    → field_text field ++ flat_map (λ c. behind_comma (cell_text places c)) others
    ≡ join_with_byte 44 (map field_text (field ∷ map (cell_text places) others))
fields-joined places field [] = append-nil (field_text field)
fields-joined places field (other ∷ others) =
    ap (λ (l : List ℕ). field_text field ++ 44 ∷ l) (fields-joined places (cell_text places other) others)

-- the first field, the others and the end of the line
pub record-parts :
    (places : ℕ) (field : List ℕ) (others : List (Cell places))
    → field_text field ++ (flat_map (λ c. behind_comma (cell_text places c)) others ++ 13 ∷ 10 ∷ [])
    ≡ record_text (field ∷ map (cell_text places) others)
record-parts places field others =
    sym (append_assoc (field_text field) (flat_map (λ c. behind_comma (cell_text places c)) others) (13 ∷ 10 ∷ []))
    ∙ ap (λ (l : List ℕ). l ++ 13 ∷ 10 ∷ []) (fields-joined places field others)

-- the records of an iteration, place by place
abbrev pub row_text : (places : ℕ) → SheetList → Row → List ℕ
row_text places v row = flat_map (λ p. record_text (csv_record places v row p)) (all_places (length v.names))

rows-joined : (places : ℕ) (v : SheetList) (rows : List Row) → flat_map (row_text places v) rows ≡ csv_text (flat_map (row_records places v) rows)
rows-joined places v [] = refl
rows-joined places v (row ∷ rows) =
    ap (λ (l : List ℕ). row_text places v row ++ l) (rows-joined places v rows)
    ∙ ap (λ (l : List ℕ). l ++ csv_text (flat_map (row_records places v) rows))
    (sym (flat_map-map record_text (csv_record places v row) (all_places (length v.names))))
    ∙ sym (flat_map-append record_text (row_records places v row) (flat_map (row_records places v) rows))

-- the head and the iterations
pub csv-parts : (places : ℕ) (v : SheetList) → record_text csv_head ++ flat_map (row_text places v) v.rows ≡ csv_of places v
csv-parts places v = ap (λ (l : List ℕ). record_text csv_head ++ l) (rows-joined places v v.rows)
