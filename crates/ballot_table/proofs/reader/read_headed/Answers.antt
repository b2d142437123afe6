use Rattle.std.proofs.Common.{◌≡◌, ◌∙◌, ap, sym}
use Rattle.std.specs.Option.{option_map}
use Rattle.ballot_table.specs.Imported.{headed_at}
use Rattle.ballot_table.specs.Sheets.{row_at}
use Rattle.ballot_table.proofs.ColumnNameLemmas.{lowest_are}
use Rattle.ballot_table.proofs.TableLemmas.{found_read, found_refused}
use Rattle.ballot_table.proofs.reader.read_headed.Goals as goal

pub returns-in-Ok-read : goal.returns-in-Ok-read
returns-in-Ok-read c =
    let a = c.args.asked.now in
    let reading = c.args.sheet.now.records.rest in
    let new = c.read.new.sheet in
    let records = c.in-Ok.ensures in
    let row = row_at new c.in-Ok.records.place in
    let head = c.in-Ok-read.head in
    let same =
    c.items.ensures
    ∙ lowest_are a.heads reading.rows row new.texts records.last.texts c.len.result c.len.ensures
    c.in-Ok-lowest_names.names c.requires.some records.last.last c.as_slice.result.now
    (c.as_slice.ensures.value ∙ records.texts) c.in-Ok-lowest_names.ensures in
    found_read a reading (headed_at a.heads reading.rows row)
    (ap (option_map (headed_at a.heads reading.rows)) records.last.last) c.items.result.now same new.records.rest
    records.rest head.head c.in-Ok-read.ensures.sound c.in-Ok-read.ensures.head head.names c.in-Ok-read.ensures.names
    c.read_rows.result c.read_rows.ensures

pub returns : goal.returns
returns c =
    let a = c.args.asked.now in
    let reading = c.args.sheet.now.records.rest in
    let new = c.read.new.sheet in
    let records = c.in-Ok.ensures in
    let row = row_at new c.in-Ok.records.place in
    let same =
    c.items.ensures
    ∙ lowest_are a.heads reading.rows row new.texts records.last.texts c.len.result c.len.ensures
    c.in-Ok-lowest_names.names c.requires.some records.last.last c.as_slice.result.now
    (c.as_slice.ensures.value ∙ records.texts) c.in-Ok-lowest_names.ensures in
    found_refused a reading (headed_at a.heads reading.rows row)
    (ap (option_map (headed_at a.heads reading.rows)) records.last.last) c.items.result.now same
    c.in-Err-read.stop c.in-Err-read.ensures.stop
