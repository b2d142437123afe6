-- The names of columns.
use Rattle.std.proofs.Common.{◌≡◌, ℕ, zero, suc, ◌+◌, ◌-◌, ◌≤◌, Bool, true, false, cond, not, List, [], ◌∷◌, ◌++◌, map, take, length}
use Rattle.std.proofs.Common.{Option, Some, None, refl, ap, sym, ◌∙◌, arith, add-one}
use Rattle.std.specs.Prelude.{decimal, filter}
use Rattle.std.specs.List.{last_or, range_with_len, slice_get, slice_index_or}
use Rattle.std.specs.Option.{option_map, unwrap_or}
use Rattle.std.proofs.lemmas.List.{append-nil, length-map, map-append}
use Rattle.table_text.specs.Reading.{Field, Reading, Row, field_text, with_row}
use Rattle.std.proofs.lemmas.List.Elements.{filter-append}
use Rattle.ballot_table.specs.ColumnNames.{column_names, lowest, texts_down}
use Rattle.ballot_table.specs.Imported.{headed, headed_at, texts_in}
use Rattle.ballot_table.specs.Rows.{is_empty}
use Rattle.ballot_table.specs.Texts.{trimmed}
use Rattle.ballot_table.proofs.HeadRecordLemmas.{last_pushed}

range_more : (from n : ℕ) → range_with_len from (suc n) ≡ range_with_len from n ++ (from + n) ∷ []
range_more from zero = ap (λ k. k ∷ []) (omega arith)
range_more from (suc n) =
    ap (λ l. from ∷ l) (range_more (from + 1) n ∙ ap (λ k. range_with_len (from + 1) n ++ k ∷ []) (omega arith))

-- a list of one more name
pub name_more : (f : ℕ → List ℕ) (from n : ℕ) (names : List (List ℕ)) (name : List ℕ)
    → names ≡ map f (range_with_len from n) → name ≡ f (from + n)
    → names ++ name ∷ [] ≡ map f (range_with_len from (n + 1))
name_more f from n names name so_far is =
    (λ i. so_far i ++ is i ∷ [])
    ∙ sym (ap (λ k. map f (range_with_len from k)) (add-one n) ∙ ap (map f) (range_more from n) ∙ map-append f (range_with_len from n) ((from + n) ∷ []))

-- below records there is a name for each column
pub names_below : (n : ℕ) (records : List (List (List ℕ))) → 1 ≤ length records
    → map (lowest records) (range_with_len 0 n) ≡ column_names n records
names_below n [] some = absurd (omega (arith, some))
names_below n (first ∷ others) some = refl

-- one more record
module _ (records : List (List (List ℕ))) (texts : List (List ℕ)) (column : ℕ) where
  abbrev text : List ℕ
  text = slice_index_or texts column []

  abbrev some_text : List ℕ → Bool
  some_text t = not (is_empty t)

  down : filter some_text (texts_down (records ++ texts ∷ []) column)
      ≡ filter some_text (texts_down records column) ++ cond (some_text text) (text ∷ []) []
  down =
      ap (filter some_text) (map-append (λ (r : List (List ℕ)). slice_index_or r column []) records (texts ∷ []))
      ∙ filter-append some_text (texts_down records column) (text ∷ [])

  by_text : (blank : Bool) (texts_above : List (List ℕ))
      → unwrap_or (last_or None (texts_above ++ cond (not blank) (text ∷ []) [])) []
      ≡ cond blank (unwrap_or (last_or None texts_above) []) text
  by_text true above = ap (λ l. unwrap_or (last_or None l) []) (append-nil above)
  by_text false above = ap (λ o. unwrap_or o []) (last_pushed None above text)

  pub lowest_more : lowest (records ++ texts ∷ []) column ≡ cond (is_empty text) (lowest records column) text
  lowest_more =
      ap (λ l. unwrap_or (last_or None l) []) down
      ∙ by_text (is_empty text) (filter some_text (texts_down records column))

-- ---- the names under a head

as_many_fields : (row : Row) → length (texts_in row) ≡ length row.fields
as_many_fields row = length-map row.fields (λ (field : Field). trimmed (field_text field.bytes))

some_taken : (n : ℕ) (rows : List Row) (row : Row) → 1 ≤ n → slice_get rows (n - 1) ≡ Some row
    → 1 ≤ length (map texts_in (take n rows))
some_taken zero rows row some there = absurd (omega (arith, some))
some_taken (suc n) [] row some there = absurd (cc there)
some_taken (suc n) (first ∷ rows) row some there = omega arith

module _ (n : ℕ) (rows : List Row) (row : Row) (texts : List (List ℕ)) (texts_are : texts ≡ texts_in row)
    (columns : ℕ) (columns_are : columns ≡ length texts) (names : List (List ℕ))
  where
    as_many : columns ≡ length row.fields
    as_many = columns_are ∙ ap (λ (ts : List (List ℕ)). length ts) texts_are ∙ as_many_fields row

    pub numbers_are : n ≡ 0 → names ≡ map decimal (range_with_len 1 columns) → names ≡ (headed_at n rows row).names
    numbers_are none are =
        are ∙ ap (λ k. map decimal (range_with_len 1 k)) as_many
        ∙ ap (λ k. column_names (length row.fields) (map texts_in (take k rows))) (sym none)

    pub lowest_are : 1 ≤ n → slice_get rows (n - 1) ≡ Some row → (records : List (List (List ℕ)))
        → records ≡ map texts_in (take n rows) → names ≡ map (lowest records) (range_with_len 0 columns)
        → names ≡ (headed_at n rows row).names
    lowest_are some there records records_are are =
        are ∙ (λ i. map (lowest (records_are i)) (range_with_len 0 (as_many i)))
        ∙ names_below (length row.fields) (map texts_in (take n rows)) (some_taken n rows row some there)

-- the first of all records, where none is the head
pub first_headed : (n : ℕ) (reading rest : Reading) (row : Row) → n ≡ 0 → reading ≡ with_row row rest
    → headed n reading.rows ≡ Some (headed_at n reading.rows row)
first_headed n reading rest row none is =
    ap (option_map (headed_at n reading.rows))
    (ap (λ k. slice_get reading.rows (k - 1)) none ∙ ap (λ (r : Reading). slice_get r.rows 0) is)
