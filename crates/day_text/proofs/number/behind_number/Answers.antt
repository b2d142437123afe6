use Rattle.std.proofs.Common.{◌∙◌}
use Rattle.day_text.proofs.Cuts.{spaced_behind, spaced_is}
use Rattle.day_text.proofs.number.behind_number.Goals as goal

pub returns-in-None : goal.returns-in-None
returns-in-None c rest is =
    c.in-None.ensures rest
    (spaced_behind _ _ _ rest c.args.n c.in-Some.ensures (c.as_bytes.ensures.value ∙ c.format.ensures.text) is)

pub returns-in-Some-strip : goal.returns-in-Some-strip
returns-in-Some-strip c =
    spaced_is _ _ _ _ c.args.n c.in-Some.ensures (c.as_bytes.ensures.value ∙ c.format.ensures.text) c.in-Some-strip.ensures
