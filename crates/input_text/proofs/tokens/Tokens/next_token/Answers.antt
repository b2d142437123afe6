use Rattle.input_text.proofs.Reading.{behind_one}
use Rattle.input_text.proofs.tokens.Tokens.next_token.Goals as goal

pub returns-in-Token-clause-behind : goal.returns-in-Token-clause-behind
returns-in-Token-clause-behind c =
    behind_one c.args.self.now c.next.new.self _ c.in-Token.ensures.bytes c.in-Token.ensures.gives
