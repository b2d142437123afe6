use Rattle.std.proofs.Common.{◌≡◌, ◌∙◌, ap, sym, subst}
use Rattle.std.specs.Prelude.{Some, slice_get}
use Rattle.std.proofs.lemmas.Option.{get_or_from_slice_get}
use Rattle.meek_rule.specs.Row.{Row, blank}
use Rattle.page_tree.specs.Print.{printed}
use Rattle.sheet_reader.specs.Values.{SheetList}
use Rattle.sheet_words.specs.Lines.{sentences_of}
use Rattle.sheet_page.specs.Told.{item}
use Rattle.sheet_page.specs.Trees.{each}
use Rattle.sheet_page.proofs.Pens.{renamed}
use Rattle.sheet_page.proofs.Telling.{told_items}
use Rattle.sheet_page.proofs.told.write_sentences_at.Goals as goal

pub returns : goal.returns
returns g c =
    let v = c.args.values.now in
    let i = c.args.i in
    let at = subst (λ (w : SheetList). slice_get w.rows i ≡ Some c.get.result.now) c.values.view_is c.get.ensures in
    let row = get_or_from_slice_get v.rows i c.get.result.now (blank 0) at in
    renamed (told_items (sentences_of g.row.P v c.get.result.now)
    ∙ ap (λ (r : Row). printed (each item (sentences_of g.row.P v r))) (sym row)) c.decisions.ensures
