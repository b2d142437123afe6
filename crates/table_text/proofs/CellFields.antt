-- The fields of a record in their cells.
use Rattle.std.proofs.Common.{◌≡◌, ℕ, ◌+◌, ◌<◌, List, [], ◌∷◌, ◌++◌, length, drop, get_or, refl}
use Rattle.std.proofs.Common.{sym, ◌∙◌, ap, subst, arith}
use Rattle.std.specs.Prelude.{slice_range}
use Rattle.table_text.specs.declared.cell.Cell.{Cell}
use Rattle.std.proofs.lemmas.List.{length-map, map_push}
use Rattle.std.proofs.lemmas.List.Edits.{length-between}
use Rattle.table_text.specs.declared.field.Flaw.{Flaw}
use Rattle.table_text.specs.declared.mark.Mark.{Mark}
use Rattle.table_text.specs.Reading.{Field, AtFault, ends, Front, Plain, by_mark, Stand, next_count}
use Rattle.table_text.specs.Reading.{left, moved, read}
use Rattle.table_text.specs.Reader.{IsBegun, in_field, field_at, fields_at, GoesOver, HasFlaw, EndsAt, IsFieldAt}
use Rattle.table_text.proofs.Marks.{parts_at}
use Rattle.table_text.proofs.Over.{read_more}

module _ (s : ℕ) (bytes : List ℕ) (row start : ℕ) (cells : List Cell) (cell : Cell) (at : ℕ) (is : IsFieldAt s bytes at cell)
    (begun_there : IsBegun s bytes row start cells at) where
  begun : IsBegun s bytes row start cells cell.at
  begun = subst (λ (n : ℕ). IsBegun s bytes row start cells n) (sym is.begins) begun_there

  over : GoesOver s bytes Front cell.at cell.stop Plain
  over = subst (λ (n : ℕ). GoesOver s bytes Front n cell.stop Plain) (sym is.begins) is.over

  abbrev here : Stand
  here = in_field row start (fields_at bytes cells) cell.at (slice_range bytes cell.at cell.stop) Plain

  -- after a field and a separator the next field begins
  pub begun_more :
      cell.stop < length bytes → get_or bytes cell.stop 0 ≡ s
      → IsBegun s bytes row start (cells ++ cell ∷ []) (cell.stop + 1)
  begun_more inside same =
      let stop = cell.stop in
      begun
      ∙ (over row start (fields_at bytes cells)
      ∙ (read_more s here bytes stop inside
      ∙ (ap (λ (m : Mark). moved here stop (get_or bytes stop 0) (by_mark Plain m)
      (λ next. read s next (stop + 1) (drop (stop + 1) bytes)))
      (parts_at s (get_or bytes stop 0) (drop (stop + 1) bytes) (is.parted inside) same)
      ∙ ap (λ (fs : List Field). read s (in_field row start fs (stop + 1) [] Front) (stop + 1)
      (drop (stop + 1) bytes))
      (sym (map_push (field_at bytes) cells cell)))))

  -- the record ends after a field
  pub ends_at : EndsAt s bytes row start (cells ++ cell ∷ []) cell.stop
  ends_at = record {
    stand = here;
    row_is = refl;
    start_is = refl;
    part_is = refl;
    fields = sym (map_push (field_at bytes) cells cell);
    end_is =
        let long = length-between bytes cell.at cell.stop is.stands.inside in
        omega (arith, long, is.stands.ordered);
    same = begun ∙ over row start (fields_at bytes cells);
  }

module _ (s : ℕ) (bytes : List ℕ) (row start : ℕ) (cells : List Cell) (at : ℕ)
    (begun : IsBegun s bytes row start cells at) where
  -- the field is no field
  pub flawed :
      (flaw : Flaw) → HasFlaw s bytes Front at flaw
      → left s bytes row start
      ≡ ends
      (AtFault (record { kind = flaw.kind; at = flaw.at; row = row; column = next_count (length cells) }))
  flawed flaw has =
      begun
      ∙ (has row start (fields_at bytes cells)
      ∙ ap (λ (n : ℕ). ends
      (AtFault (record { kind = flaw.kind; at = flaw.at; row = row; column = next_count n })))
      (length-map cells (field_at bytes)))
