use Rattle.sheet_page.proofs.Pens.{later}
use Rattle.day_page.proofs.end_text.write_stands.Goals as goal

pub returns : goal.returns
returns g c = later c.write_counts.ensures (later c.write_batches.ensures c.write_struck.ensures)
