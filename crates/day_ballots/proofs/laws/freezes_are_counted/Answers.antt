use Rattle.day_ballots.proofs.Counted.{freezes_counted}
use Rattle.day_ballots.proofs.laws.freezes_are_counted.Goals as goal

pub returns : goal.returns
returns c = freezes_counted c.texts_are_read.ensures c.sheets_are_unique.ensures.orders
