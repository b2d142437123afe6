use Rattle.std.proofs.Common.{arith}
use Rattle.day_page.proofs.Owing.{day_owed, own_at}
use Rattle.day_page.proofs.tool.show_at.Goals as goal

pub returns-in-Ok-clause-shown : goal.returns-in-Ok-clause-shown
returns-in-Ok-clause-shown g c =
    let input = c.args.input.now in
    let at = own_at input g.row.P _ (omega arith) (omega arith) c.in-Ok.ensures c.requires.greatest in
    day_owed g.row.P c.args.format input _ _ _ c.requires.short at c.show_day.ensures
