use Rattle.std.proofs.Common.{◌∙◌, sym, subst, Option}
use Rattle.ballot_table.specs.declared.layout.Layout.{Layout}
use Rattle.blt_import.specs.Forms.{form_by}
use Rattle.blt_import.specs.Owed.{Reads}
use Rattle.blt_import.proofs.form.read_form.Goals as goal

pub returns-in-Some : goal.returns-in-Some
returns-in-Some c =
    subst (λ (l : Option Layout). Reads (form_by c.args.asked.now l) c.args.input.now c.read_by_layout.result)
    (sym c.in-Some.is ∙ c.layout_of.ensures) c.read_by_layout.ensures

pub returns-in-None : goal.returns-in-None
returns-in-None c =
    subst (λ (l : Option Layout). Reads (form_by c.args.asked.now l) c.args.input.now c.read_text.result)
    (sym c.in-None.is ∙ c.layout_of.ensures) c.read_text.ensures
