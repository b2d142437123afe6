use Rattle.std.proofs.Common.{◌∙◌}
use Rattle.blt_reader.proofs.FileSteps.{string_more, trailing, well_ended, faulted}
use Rattle.blt_reader.proofs.files.read_further.Goals as goal

pub returns-in_default : goal.returns-in_default
returns-in_default c =
    λ limit poll. c.loop-token.invariant limit poll
    ∙ trailing limit poll _ _ c.loop-token.tokens.bytes c.in-Token.token.at c.in-Token.token.at c.in-Token.token.stop
    c.in-Token.token.what c.in-Token.ensures.gives c.in_default.not-Text

pub loop-token-preserved : goal.loop-token-preserved
loop-token-preserved c =
    λ limit poll. c.loop-token.invariant limit poll
    ∙ string_more limit poll _ _ c.loop-token.tokens.bytes c.in-Token.token.at c.in-Token.token.at c.in-Token.token.stop
    c.in-Token.token.what c.in-Token.ensures.gives c.in-Text.is

pub returns-in-End : goal.returns-in-End
returns-in-End c = λ limit poll. c.loop-token.invariant limit poll ∙ well_ended limit poll _ _ c.in-End.ensures.gives.0

pub returns-in-Fault : goal.returns-in-Fault
returns-in-Fault c = λ limit poll. c.loop-token.invariant limit poll ∙ faulted limit poll _ _ c.in-Fault.ensures.gives.0
