-- What holds of every table, and of every text and name.
use Rattle.std.specs.Prelude.{◌≡◌, ℕ, ◌≤◌, false, List, All, length}
use Rattle.std.specs.Char.{is_control}
use Rattle.std.specs.List.{flat_map}
use Rattle.std.specs.Str.{encode_utf8_all}
use Rattle.bstr.specs.Utf8.{lossy_chars}
use Rattle.sheet_reader.specs.Form.{IsPrintable}
use Rattle.sheet_reader.specs.Values.{SheetList}
use Rattle.sheet_minutes.specs.Columns.{name_columns, plain}
use Rattle.sheet_minutes.specs.Rounds.{rounds_of}
use Rattle.sheet_minutes.specs.Table.{block_lines, blocks, width_of}

-- The blocks one after another have all rounds, each once, in order.
abbrev pub RoundsStandOnce : Type 0
RoundsStandOnce =
    (places : ℕ) (v : SheetList) → 6 ≤ places → places ≤ 9 → IsPrintable places v
    → flat_map (λ (block : List ℕ). block) (blocks places v) ≡ rounds_of v.rows

-- the columns of a line: its characters, with one for each piece that is no UTF-8
abbrev pub columns_of : (line : List ℕ) → ℕ
columns_of line = length (lossy_chars line)

-- No line of a block has more than 80 columns.
abbrev pub TablesFit : Type 0
TablesFit =
    (places : ℕ) (v : SheetList) → 6 ≤ places → places ≤ 9 → IsPrintable places v
    → All (λ block. All (λ line. columns_of line ≤ 80) (block_lines places v (width_of places v) block)) (blocks places v)

-- ---- texts

-- no control character, which could end a line or move a cursor
abbrev pub IsTame : (bytes : List ℕ) → Type 0
IsTame bytes = All (λ c. is_control c ≡ false) (lossy_chars bytes)

-- What is written of a title, a name or a sentence has none, whatever its bytes are, and neither has what stands of a name in the table.
pub record TextsAreTame : Type 0 where
  pub texts : (text : List ℕ) → IsTame (plain text)
  pub names : (name : List ℕ) → IsTame (encode_utf8_all (name_columns name))
