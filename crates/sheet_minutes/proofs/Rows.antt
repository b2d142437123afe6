-- An iteration, as it is got from the values of a sheet.
use Rattle.std.proofs.Common.{◌≡◌, sym, subst, ℕ}
use Rattle.std.specs.Prelude.{Some, slice_get}
use Rattle.std.proofs.lemmas.Option.{get_or_from_slice_get}
use Rattle.meek_rule.specs.Row.{Row, blank}
use Rattle.sheet_reader.specs.Values.{SheetList}
use Rattle.sheet_minutes.specs.Rounds.{row_at}

pub row_is : (v w : SheetList) (i : ℕ) (row : Row) → w ≡ v → slice_get w.rows i ≡ Some row → row ≡ row_at v.rows i
row_is v w i row same got =
    sym (get_or_from_slice_get v.rows i row (blank 0) (subst (λ (u : SheetList). slice_get u.rows i ≡ Some row) same got))
