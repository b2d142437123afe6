-- The rows of a sheet that can be printed.
use Rattle.std.proofs.Common.{◌≡◌, ℕ, ◌<◌, length, subst}
use Rattle.std.proofs.lemmas.List.Elements.{All-get_or}
use Rattle.meek_rule.specs.Row.{Row, blank}
use Rattle.sheet_reader.specs.Form.{IsPrintable, IsPrintableRow}
use Rattle.sheet_reader.specs.Values.{SheetList}
use Rattle.sheet_minutes.specs.Rounds.{row_at}

-- the row at a place
pub printable_at :
    (places : ℕ) (v : SheetList) (i : ℕ) (row : Row) → IsPrintable places v → i < length v.rows → row_at v.rows i ≡ row
    → IsPrintableRow places (length v.names) row
printable_at places v i row is below same =
    subst (IsPrintableRow places (length v.names)) same
    (All-get_or (IsPrintableRow places (length v.names)) v.rows i (blank 0) below is.rows)
