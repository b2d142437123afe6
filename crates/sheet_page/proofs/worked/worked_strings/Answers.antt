use Rattle.std.proofs.Common.{refl}
use Rattle.page_tree.specs.Escaping.{escaped}
use Rattle.sheet_page.proofs.worked.worked_strings.Goals as goal

pub returns : goal.returns
unfolding escaped
returns c = record {
  controls = refl;
  others = refl;
}
