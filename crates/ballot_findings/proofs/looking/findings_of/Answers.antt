use Rattle.std.proofs.Common.{◌∙◌, ◌++◌, ℕ, List, ap, length}
use Rattle.std.proofs.lemmas.Result.{IfOk-weaker}
use Rattle.ballot_findings.specs.Breaks.{place_warnings}
use Rattle.ballot_findings.proofs.LookedText.{looked_text}
use Rattle.ballot_findings.proofs.looking.findings_of.Goals as goal

pub returns : goal.returns
returns g =
    let input = g.args.input.now in
    let roll = g.args.roll.now in
    let same = looked_text input roll g.args.ballots.now.lines g.in_ok-looked.looked g.in_ok-looked.ensures in
    let after = place_warnings input (length roll.names) in
    IfOk-weaker g.whole_text.result _ _ (λ text is. is ∙ ap (λ (l : List ℕ). l ++ after) same) g.whole_text.ensures
