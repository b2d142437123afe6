use Rattle.std.proofs.lemmas.Result.{err_from_is_err_and}
use Rattle.sheet_reader.proofs.ReadSheet.{end_stops, head_stops, rows_stop}
use Rattle.sheet_reader.proofs.SheetLines.{form_ends}
use Rattle.sheet_reader.proofs.WordLines.{stop_later}
use Rattle.sheet_reader.proofs.sheet_parts.read_parts.Goals as goal

pub returns-then-not-is_ended : goal.returns-then-not-is_ended
returns-then-not-is_ended g c v is = let front = form_ends g.row.P c.args.bytes.now v is in c.if-not-is_ended.ensures front.0 front.1

pub returns-in_err-head : goal.returns-in_err-head
returns-in_err-head g c =
    let p = err_from_is_err_and c.from_residual.result c.from_residual.ensures.1 in
    rw (p.1, p.2) (stop_later _ (head_stops g.row.P c.requires.places c.args.bytes.now _ c.new-lines.ensures) c.in_err-head.ensures)

pub returns-in_err-read_rows : goal.returns-in_err-read_rows
returns-in_err-read_rows g c =
    let p = err_from_is_err_and c.from_residual-in_err-read_rows.result c.from_residual-in_err-read_rows.ensures.1 in
    let head = c.in_ok-head.ensures in
    rw (p.1, p.2) (stop_later _ (rows_stop g.row.P c.requires.places c.args.bytes.now _ c.new-lines.ensures _ _ _ _ _ head.2 head.4)
    c.in_err-read_rows.ensures)

pub returns-in_err-last : goal.returns-in_err-last
returns-in_err-last g c =
    let p = err_from_is_err_and c.from_residual-in_err-last.result c.from_residual-in_err-last.ensures.1 in
    let head = c.in_ok-head.ensures in
    let rows = c.in_ok-read_rows.ensures in
    rw (p.1, p.2) (stop_later _ (end_stops g.row.P c.requires.places c.args.bytes.now _ c.new-lines.ensures _ _ _ _ _ head.2 head.4 rows.0 _ rows.2
    rows.3) c.in_err-last.ensures)
