use Rattle.blt_reader.proofs.BltLaws.{refuses_all_else}
use Rattle.blt_reader.proofs.laws.refuses_all_else.Goals as goal

pub returns : goal.returns
returns c = refuses_all_else
