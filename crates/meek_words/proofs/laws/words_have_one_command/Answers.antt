use Rattle.meek_words.proofs.FormLemmas.{have_one_command}
use Rattle.meek_words.proofs.laws.words_have_one_command.Goals as goal

pub returns : goal.returns
returns c = have_one_command
