use Rattle.sheet_page.specs.Html.{page}
use Rattle.sheet_page.proofs.Nesting.{well_named}
use Rattle.sheet_page.proofs.laws.pages_nest.Goals as goal

pub returns : goal.returns
returns c places v = c.page_laws.ensures.elements (page places v) (well_named places v)
