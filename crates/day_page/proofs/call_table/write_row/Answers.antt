use Rattle.std.proofs.Common.{rules}
use Rattle.day_page.specs.CallTable.{call_row}
use Rattle.sheet_page.proofs.Printing.{leaf}
use Rattle.sheet_page.proofs.Pens.{renamed}
use Rattle.day_page.proofs.call_table.write_row.Goals as goal

pub returns : goal.returns
returns g c =
    renamed (leaf (call_row c.args.number c.args.caller.now c.args.call.now c.args.reply.now)) (search rules)
