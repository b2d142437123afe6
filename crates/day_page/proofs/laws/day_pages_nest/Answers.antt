use Rattle.day_page.specs.DayHtml.{day_page}
use Rattle.day_page.proofs.DayNesting.{well_named}
use Rattle.day_page.proofs.laws.day_pages_nest.Goals as goal

pub returns : goal.returns
returns c places v = c.page_laws.ensures.elements (day_page places v) (well_named places v)
