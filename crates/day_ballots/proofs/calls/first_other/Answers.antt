use Rattle.std.proofs.Common.{◌≡◌, ◌∙◌, arith, ap, length}
use Rattle.day_ballots.proofs.CallLines.{is_other, is_behind, no_difference}
use Rattle.day_ballots.proofs.calls.first_other.Goals as goal
use Rattle.day_ballots.proofs.calls.first_other.Goals.{else-line-at-via-then-line-at+else-line-calls}
use Rattle.day_ballots.proofs.calls.first_other.Goals.{else-line-at-via-else-line-at}

pub returns-in_err-line : goal.returns-in_err-line
returns-in_err-line c =
    no_difference c.args.text.now c.args.history.now c.args.at c.from_residual.result c.from_residual.ensures
    c.in_err-line.ensures

pub returns-then-line-calls : goal.returns-then-line-calls
returns-then-line-calls c =
    let all : length c.items.result.now ≡ length c.args.history.now = ap length (c.items.ensures ∙ c.entries.ensures) in
    is_other c.args.text.now c.args.history.now c.args.at c.in_ok-line.line c.in_ok-line.ensures c.if-line-at.true
    (omega (arith, all, c.if-line-calls.true))

pub returns-else-line-at : goal.returns-else-line-at
returns-else-line-at c =
    let all : length c.items.result.now ≡ length c.args.history.now = ap length (c.items.ensures ∙ c.entries.ensures) in
    is_behind c.args.text.now c.args.history.now c.args.at c.in_ok-line.line c.in_ok-line.ensures (λ asked call.
    elim c.else-line-at.branch [
      | else-line-at-via-then-line-at+else-line-calls w ↦ omega (arith, all, call, w.if-line-calls.false)
      | else-line-at-via-else-line-at w ↦ omega (arith, asked, w.if-line-at.false)
    ])
