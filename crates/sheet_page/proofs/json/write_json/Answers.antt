use Rattle.std.proofs.Common.{rules}
use Rattle.sheet_page.proofs.Pens.{later, ended}
use Rattle.sheet_page.proofs.json.write_json.Goals as goal

pub returns : goal.returns
returns g c =
    ended c.new-pen.ensures.before c.new-pen.ensures.well
    (later c.write_sheet_json.ensures c.piece.ensures) (search rules) c.end.ensures.done
