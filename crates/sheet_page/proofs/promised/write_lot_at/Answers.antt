use Rattle.std.proofs.Common.{ap}
use Rattle.std.specs.Prelude.{Option}
use Rattle.count_promise.specs.declared.group.Group.{Group}
use Rattle.page_tree.specs.Print.{printed}
use Rattle.sheet_page.specs.Promised.{lot_if}
use Rattle.sheet_page.proofs.Pens.{renamed}
use Rattle.sheet_page.proofs.promised.write_lot_at.Goals as goal

pub returns-in-Some : goal.returns-in-Some
returns-in-Some g c =
    renamed (ap (λ (among : Option Group). printed (lot_if c.args.values.now c.args.row.now c.args.p among)) c.in-Some.ensures)
    c.write_lot.ensures
