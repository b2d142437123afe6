use Rattle.std.proofs.Common.{◌++◌, refl}
use Rattle.day_lines.specs.EntryText.{entries_text}
use Rattle.piece_text.proofs.Written.{stops, later}
use Rattle.day_sheets.specs.DueSheets.{sheets_at}
use Rattle.day_sheets.proofs.DueTexts.{texts_of, sheets_have}
use Rattle.day_sheets.proofs.day_text.DayText.write_all.Goals as goal

pub returns-in_err-write_entries : goal.returns-in_err-write_entries
returns-in_err-write_entries g c =
    let sheets =
    texts_of g.row.P (sheets_at c.args.self.now.places.now c.args.counts.items)
    (sheets_have g.row.P c.args.self.now.places.now c.args.counts.items c.requires) in (
      entries_text c.args.self.now.history.now ++ sheets.0,
      (sheets.0, sheets.1, refl),
      stops sheets.0 c.from_residual.result c.from_residual.ensures.0 (record
          { part = c.in_err-write_entries.ensures.front; rose = c.in_err-write_entries.ensures.faults }),
    )

pub returns : goal.returns
returns g c =
    let did = c.write_sheets.ensures in (
      entries_text c.args.self.now.history.now ++ did.0,
      (did.0, did.1, refl),
      later c.write_sheets.new.sink did.0 c.write_sheets.result
          (record { whole = c.in_ok-write_entries.ensures.all; calm = c.in_ok-write_entries.ensures.faults })
          did.2,
    )
