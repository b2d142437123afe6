use Rattle.std.proofs.Common.{◌≡◌, ◌∙◌, ap, sym, subst}
use Rattle.ballot_table.specs.Imported.{headed_at}
use Rattle.ballot_table.specs.Sheets.{left_after, row_at}
use Rattle.ballot_table.proofs.ColumnNameLemmas.{first_headed, numbers_are}
use Rattle.ballot_table.proofs.TableLemmas.{found_read, found_refused}
use Rattle.ballot_table.proofs.reader.read_numbered.Goals as goal

pub returns-in-Ok-read : goal.returns-in-Ok-read
returns-in-Ok-read c =
    let a = c.args.asked.now in
    let reading = c.args.sheet.now.records.rest in
    let new = c.next.new.self in
    let turned = rw c.in-Ok-Some.field-0-is at c.in-Ok-Some.ensures in
    let row = row_at new c.in-Ok-Some.place in
    let head = c.in-Ok-read.head in
    let same =
    c.items.ensures
    ∙ numbers_are a.heads reading.rows row new.texts turned.texts c.len.result c.len.ensures c.in-Ok.names c.requires.none
    c.in-Ok.ensures in
    found_read a reading (headed_at a.heads reading.rows row)
    (first_headed a.heads reading new.records.rest row c.requires.none turned.rest) c.items.result.now same
    c.args.rows.now.records.rest (c.requires.same ∙ ap (λ n. left_after n reading) (sym c.requires.none)) head.head
    c.in-Ok-read.ensures.sound c.in-Ok-read.ensures.head head.names c.in-Ok-read.ensures.names c.read_rows.result
    c.read_rows.ensures

pub returns : goal.returns
returns c =
    let a = c.args.asked.now in
    let reading = c.args.sheet.now.records.rest in
    let new = c.next.new.self in
    let turned = rw c.in-Ok-Some.field-0-is at c.in-Ok-Some.ensures in
    let row = row_at new c.in-Ok-Some.place in
    let same =
    c.items.ensures
    ∙ numbers_are a.heads reading.rows row new.texts turned.texts c.len.result c.len.ensures c.in-Ok.names c.requires.none
    c.in-Ok.ensures in
    found_refused a reading (headed_at a.heads reading.rows row)
    (first_headed a.heads reading new.records.rest row c.requires.none turned.rest) c.items.result.now same
    c.in-Err-read.stop c.in-Err-read.ensures.stop
