use Rattle.std.proofs.Common.{sym, ◌∙◌}
use Rattle.input_text.proofs.Cutting.{over_separator}
use Rattle.input_text.proofs.tokens.past_separator.Goals as goal

pub returns-then-is_separator-clause-same : goal.returns-then-is_separator-clause-same
returns-then-is_separator-clause-same c letters =
    over_separator letters c.args.bytes.now c.args.at c.if-at-bytes.true
    (sym c.is_separator.ensures ∙ c.if-is_separator.true)
