use Rattle.std.proofs.Common.{◌≡◌, ◌∙◌, ap, sym, subst, ℕ, List}
use Rattle.std.specs.Prelude.{Some, slice_get}
use Rattle.std.proofs.lemmas.Option.{get_or_from_slice_get}
use Rattle.meek_rule.specs.Row.{Row, blank}
use Rattle.page_tree.specs.Print.{printed}
use Rattle.sheet_reader.specs.Values.{SheetList}
use Rattle.sheet_minutes.specs.Rounds.{row_at}
use Rattle.sheet_page.specs.Links.{round_link}
use Rattle.sheet_page.proofs.Pens.{renamed}
use Rattle.sheet_page.proofs.links.write_link.Goals as goal

pub returns : goal.returns
returns g c =
    let v = c.args.values.now in
    let i = c.args.i in
    let at =
    subst (λ (w : SheetList). slice_get w.rows i ≡ Some c.get-row.result.now) c.values.view_is c.get-row.ensures in
    let row = get_or_from_slice_get v.rows i c.get-row.result.now (blank 0) at in
    let target = c.bytes.ensures.value ∙ c.link_to-target.ensures in
    renamed (ap (λ (r : Row). printed (round_link c.bytes.result.now r.round)) (c.row.view_is ∙ sym row)
    ∙ ap (λ (l : List ℕ). printed (round_link l (row_at v.rows i).round)) target) c.write_link_text.ensures
