use Rattle.std.proofs.Common.{ℕ, List, Option, ap, sym, ◌∙◌}
use Rattle.std.specs.List.{slice_get}
use Rattle.std.specs.Option.{option_map, option_map_or}
use Rattle.std.proofs.lemmas.Option.{slice_get-get_or, slice_get-map}
use Rattle.table_text.specs.declared.cell.Cell.{Cell}
use Rattle.table_text.specs.Reading.{Field}
use Rattle.table_text.specs.Reader.{field_at, fields_at}
use Rattle.ballot_table.specs.Sheets.{Opened}
use Rattle.ballot_table.proofs.sheet.Sheet.byte_at.Goals as goal

pub returns-in-Some : goal.returns-in-Some
returns-in-Some c =
    let bytes = c.args.self.now.records.bytes in
    let cells = c.items.result.now in
    let at = c.saturating_sub.result in
    let found = c.in-Some.ensures.lookup.3 in
    let cell : Cell = record { at = 0; stop = 0; number = 0 } in
    let stands : Option Field → ℕ = λ field. option_map_or (λ (f : Field). f.at) field c.args.place.end in
    ap (λ (one : Cell). one.at) (found.1 cell)
    ∙ ap stands (sym (slice_get-map (field_at bytes) cells at
    ∙ ap (option_map (field_at bytes)) (slice_get-get_or cells at cell found.0)))
    ∙ ap (λ (cs : List Cell). stands (slice_get (fields_at bytes cs) at))
    (c.items.ensures ∙ ap (λ (sheet : Opened). sheet.cells) c.self.view_is)
    ∙ ap (λ (k : ℕ). stands (slice_get (fields_at bytes c.args.self.now.cells) k)) c.saturating_sub.ensures
