use Rattle.std.proofs.Common.{◌∙◌, ◌-◌, ℕ, ap}
use Rattle.page_tree.specs.Print.{printed}
use Rattle.fixed_place.specs.Text.{text_of}
use Rattle.meek_rule.specs.Row.{Row}
use Rattle.sheet_page.specs.Promised.{none_item, none_of}
use Rattle.sheet_page.specs.Values.{name_at}
use Rattle.sheet_page.proofs.Pens.{renamed}
use Rattle.sheet_page.proofs.promised.write_none_of.Goals as goal

pub returns : goal.returns
returns g c =
    let v = c.args.values.now in
    let quota = c.args.quota.now in
    let step = c.defeated-number.ensures in
    renamed (ap (λ l. printed (none_item l c.defeated-number.result c.row.inside.round c.row.inside.iteration
    (text_of g.row.P c.row.inside.surplus) quota)) (c.name_at-name.ensures ∙ ap (λ (k : ℕ). name_at v k) c.saturating_sub.ensures)
    ∙ ap (λ (n : ℕ). printed (none_item (name_at v (n - 1)) n c.row.inside.round c.row.inside.iteration
    (text_of g.row.P c.row.inside.surplus) quota)) step
    ∙ ap (λ (r : Row). printed (none_of g.row.P v r quota)) c.row.view_is)
    c.write_none.ensures
