use Rattle.sheet_page.proofs.PageBars.{pictures_small}
use Rattle.sheet_page.proofs.laws.pictures_are_small.Goals as goal

pub returns : goal.returns
returns c = pictures_small
