use Rattle.std.proofs.Common.{sym, subst}
use Rattle.batch_core.specs.Book.{after}
use Rattle.batch_core.specs.declared.call.Call.{Call}
use Rattle.day_text.specs.End.{Follows}
use Rattle.day_text.proofs.ending.Ending.call.Goals as goal

pub returns-in-Change-clause-after : goal.returns-in-Change-clause-after
returns-in-Change-clause-after c book follows =
    subst (λ (x : Call). Follows c.change.new.self.table.items c.change.new.self.struck.items (after book x))
    (sym c.in-Change.is) (c.change.ensures.after book follows)
