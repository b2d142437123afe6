use Rattle.sheet_page.proofs.Pens.{later}
use Rattle.day_page.proofs.minutes.write_titled.Goals as goal

pub returns : goal.returns
returns g c = later c.write_title.ensures c.minutes.ensures
