use Rattle.sheet_page.proofs.JsonReads.{strings_read}
use Rattle.sheet_page.proofs.laws.strings_are_read_back.Goals as goal

pub returns : goal.returns
returns c = strings_read
