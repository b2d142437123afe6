use Rattle.std.proofs.Common.{◌∙◌, ap, sym, subst}
use Rattle.preflib_text.specs.Asked.{Asked}
use Rattle.preflib_text.specs.Imported.{IsImported}
use Rattle.preflib_text.specs.Refusals.{fault_of_text}
use Rattle.preflib_text.specs.Stops.{IsPrefStop}
use Rattle.blt_import.specs.Forms.{text_of}
use Rattle.blt_import.proofs.FormLemmas.{text_read, text_stop}
use Rattle.blt_import.proofs.pref_form.read_text.Goals as goal

pub returns-in-Ok : goal.returns-in-Ok
returns-in-Ok c =
    text_read (text_of c.args.asked.now) c.args.input.now c.in-Ok.text c.read_of.result
    (subst (λ (a : Asked). IsImported a c.args.input.now c.in-Ok.text) c.text_of.ensures c.in-Ok.ensures.imported)
    (ap (λ (a : Asked). fault_of_text a c.args.input.now) (sym c.text_of.ensures) ∙ c.in-Ok.ensures.sound)
    c.read_of.ensures

pub returns-in-Err : goal.returns-in-Err
returns-in-Err c =
    text_stop (fault_of_text (text_of c.args.asked.now) c.args.input.now) c.in-Err.stop c.stop_of.result
    (subst (λ (a : Asked). IsPrefStop (fault_of_text a c.args.input.now) c.in-Err.stop) c.text_of.ensures
    c.in-Err.ensures.stop)
    c.stop_of.ensures
