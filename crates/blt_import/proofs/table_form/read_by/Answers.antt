use Rattle.std.proofs.Common.{◌∙◌, ap, sym, subst}
use Rattle.ballot_table.specs.declared.table_asked.TableAsked.{TableAsked}
use Rattle.ballot_table.specs.Imported.{IsImported, IsTableStop, refusal}
use Rattle.blt_import.specs.Forms.{with_lists}
use Rattle.blt_import.proofs.FormLemmas.{table_read, table_stop}
use Rattle.blt_import.proofs.table_form.read_by.Goals as goal

pub returns-in-Ok : goal.returns-in-Ok
returns-in-Ok c =
    let table = c.in_ok-fill.ensures in
    let input = c.args.input.now in
    let asked = with_lists c.args.asked.now c.args.table.now in
    table_read (record { title = c.args.asked.now.roll.title; table = asked }) input c.in-Ok.read c.titled.result
    (subst (λ (a : TableAsked). IsImported a input c.in-Ok.read) table c.in-Ok.ensures.imported)
    (ap (λ (a : TableAsked). refusal a input) (sym table) ∙ c.in-Ok.ensures.sound)
    c.titled.ensures.titled c.titled.ensures.stop

pub returns-in-Err : goal.returns-in-Err
returns-in-Err c =
    table_stop (refusal (with_lists c.args.asked.now c.args.table.now) c.args.input.now) c.in-Err.stop c.stop_of.result
    (subst (λ (a : TableAsked). IsTableStop (refusal a c.args.input.now) c.in-Err.stop) c.in_ok-fill.ensures
    c.in-Err.ensures.stop)
    c.stop_of.ensures
