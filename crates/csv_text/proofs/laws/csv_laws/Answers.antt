use Rattle.csv_text.proofs.ReadLemmas.{records-read_back}
use Rattle.csv_text.proofs.laws.csv_laws.Goals as goal

pub returns : goal.returns
returns c = records-read_back
