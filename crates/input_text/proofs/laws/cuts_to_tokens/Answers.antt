use Rattle.input_text.proofs.SpellingLaws.{cuts_to_tokens}
use Rattle.input_text.proofs.laws.cuts_to_tokens.Goals as goal

pub returns : goal.returns
returns c = cuts_to_tokens
