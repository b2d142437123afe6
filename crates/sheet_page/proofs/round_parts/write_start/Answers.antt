use Rattle.std.proofs.Common.{◌∙◌, ap, ℕ, List}
use Rattle.std.specs.Prelude.{codes}
use Rattle.page_tree.specs.Print.{opening}
use Rattle.sheet_page.specs.Links.{part_attributes}
use Rattle.sheet_page.proofs.Pens.{renamed}
use Rattle.sheet_page.proofs.round_parts.write_start.Goals as goal

pub returns : goal.returns
returns g c =
    let name = c.bytes.ensures.value ∙ c.part_name-name.ensures.name in
    renamed (ap (λ (l : List ℕ). opening (codes "section") (part_attributes l)) name) c.write_start_of.ensures
