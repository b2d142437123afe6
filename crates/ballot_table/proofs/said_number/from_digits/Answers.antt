use Rattle.std.proofs.Common.{◌≡◌, ℕ, ◌-◌, Bool, arith, ap, sym, ◌∙◌, length, drop, not}
use Rattle.std.specs.List.{prefix_len}
use Rattle.std.proofs.lemmas.List.{length-drop, take_all}
use Rattle.std.proofs.lemmas.List.Sums.{prefix_len-drop_all, prefix_len-drop_no, prefix_len-drop_yes}
use Rattle.ballot_table.specs.Texts.{is_digit}
use Rattle.ballot_table.proofs.said_number.from_digits.Goals as goal
use Rattle.ballot_table.proofs.said_number.from_digits.Goals.{then-loop-at-test+else-not-is_digit, else-loop-at-test}

abbrev no_digit : ℕ → Bool
no_digit b = not (is_digit b)

pub loop-at-preserved : goal.loop-at-preserved
loop-at-preserved c =
    let before = c.loop-at.invariant.before in
    let inside = c.loop-at-test.true in
    let more =
    prefix_len-drop_yes no_digit c.args.text.now c.loop-at.at 0 inside
    (ap not (sym c.is_digit.ensures ∙ c.if-not-is_digit.true)) in
    record { inside = omega arith; before = omega (arith, before, more) }

pub returns : goal.returns
returns c =
    let text = c.args.text.now in
    let at = c.loop-at.at in
    let before = c.loop-at.invariant.before in
    let long = length-drop at text in
    let front : prefix_len no_digit text ≡ at =
    elim c.loop-at-test.branch [
      | then-loop-at-test+else-not-is_digit w ↦
          let none = prefix_len-drop_no no_digit text at 0 w.loop-at-test.true (ap not (sym w.is_digit.ensures ∙ w.if-not-is_digit.false)) in
          omega (arith, before, none)
      | else-loop-at-test w ↦
          let none = prefix_len-drop_all no_digit text at w.loop-at-test.false in omega (arith, before, none)
    ] in
    take_all (length text - at) (drop at text) (omega (arith, long)) ∙ ap (λ n. drop n text) (sym front)
