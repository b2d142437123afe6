-- Texts as a terminal is given them: a character takes one column.
use Rattle.std.specs.Prelude.{ℕ, ◌-◌, if◌then◌else◌, List, ◌++◌, length, map, replicate, slice_index_or}
use Rattle.std.specs.Char.{is_control}
use Rattle.std.specs.List.{range_with_len}
use Rattle.std.specs.Str.{encode_utf8_all}
use Rattle.bstr.specs.Utf8.{lossy_chars, replacement}
use Rattle.sheet_minutes.specs.declared.columns.TheConstants.{NAME_COLUMNS}

-- A control character could end a line or move the cursor: the replacement sign stands for it.
abbrev pub tamed : (c : ℕ) → ℕ
tamed c = if is_control c then replacement else c

-- the characters of a text, with the replacement sign for each piece that is no UTF-8
abbrev pub columns : List ℕ → List ℕ
columns text = map tamed (lossy_chars text)

-- the characters of a text in UTF-8
abbrev pub plain : List ℕ → List ℕ
plain text = encode_utf8_all (columns text)

-- a text of ASCII at the right of so many columns, or a longer one as it is; 32 is a space
abbrev pub at_right : (width : ℕ) → List ℕ → List ℕ
at_right width text = replicate (width - length text) 32 ++ text

-- so many columns of a name: its first characters, and spaces where it has no more
unfoldable pub name_columns : List ℕ → List ℕ
name_columns name = map (λ k. slice_index_or (columns name) k 32) (range_with_len 0 NAME_COLUMNS)
