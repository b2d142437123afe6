use Rattle.std.proofs.Common.{arith, sym, ◌∙◌}
use Rattle.std.proofs.lemmas.List.Sums.{prefix_len-drop_yes}
use Rattle.ballot_table.specs.Texts.{is_digit}
use Rattle.ballot_table.proofs.said_number.end_of_digits.Goals as goal

pub loop-at-preserved : goal.loop-at-preserved
loop-at-preserved c =
    let before = c.loop-at.invariant.before in
    let inside = c.loop-at-test.true in
    let more =
    prefix_len-drop_yes is_digit c.args.text.now c.loop-at.at 0 inside (sym c.is_digit.ensures ∙ c.if-is_digit.true) in
    record { inside = omega arith; before = omega (arith, before, more) }
