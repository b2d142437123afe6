use Rattle.std.proofs.Common.{◌∙◌, ap, sym, ℕ, List, ◌++◌}
use Rattle.std.proofs.lemmas.List.Folds.{flat_map-map}
use Rattle.batch_core.specs.declared.entry.Entry.{Entry}
use Rattle.csv_text.specs.Csv.{record_text}
use Rattle.day_lines.specs.EntryText.{numbered}
use Rattle.day_text.specs.Values.{DayTextList}
use Rattle.day_page.specs.DayCsv.{day_csv, entry_record, table_head}
use Rattle.sheet_page.proofs.Pens.{later, renamed}
use Rattle.day_page.proofs.csv.write_table.Goals as goal

pub returns : goal.returns
returns g c =
    let fields = λ (e : ℕ × Entry). entry_record e.0 e.1 in
    let rows = sym (flat_map-map record_text fields (numbered c.day.inside.history.items)) in
    renamed (ap (λ (l : List ℕ). record_text table_head ++ l) rows ∙ ap (λ (v : DayTextList). day_csv v) c.day.view_is)
    (later c.write_head.ensures c.write_rows.ensures)
