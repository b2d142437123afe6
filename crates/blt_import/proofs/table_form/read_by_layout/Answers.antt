use Rattle.std.proofs.Common.{ap, subst}
use Rattle.ballot_table.specs.declared.table_asked.TableAsked.{TableAsked}
use Rattle.blt_import.specs.Forms.{Table, with_lists}
use Rattle.blt_import.specs.Owed.{Reads}
use Rattle.blt_import.proofs.table_form.read_by_layout.Goals as goal

pub returns : goal.returns
returns c =
    subst (λ (a : TableAsked). Reads (Table (record { title = c.args.asked.now.roll.title; table = a })) c.args.input.now
    c.read_by.result)
    (ap (with_lists c.args.asked.now) c.without_lists-table.ensures) c.read_by.ensures
