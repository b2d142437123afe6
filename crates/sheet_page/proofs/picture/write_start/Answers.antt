use Rattle.std.proofs.Common.{◌∙◌, ℕ, List, ap}
use Rattle.std.specs.Prelude.{codes}
use Rattle.page_tree.specs.Print.{opening}
use Rattle.sheet_page.specs.Picture.{attributes_of, view_box}
use Rattle.sheet_page.proofs.Pens.{renamed}
use Rattle.sheet_page.proofs.picture.write_start.Goals as goal

pub returns : goal.returns
returns g c =
    let view = c.bytes.ensures.value ∙ c.view_box-view.ensures ∙ ap view_box c.bars_of.ensures.count in
    renamed (ap (λ (l : List ℕ). opening (codes "svg") (attributes_of l)) view) c.write_start_of.ensures
