use Rattle.std.proofs.Common.{◌≡◌, ◌++◌, ◌∷◌, [], Option, refl, ap, sym, ◌∙◌}
use Rattle.std.specs.Option.{option_to_list}
use Rattle.plain_ballots.specs.declared.ballot_line.BallotLine.{BallotLine}
use Rattle.plain_ballots.specs.Ballots.{BallotList, plain}
use Rattle.ballot_table.proofs.GrowingLemmas.{plain_more}
use Rattle.ballot_table.proofs.growing.GrowingBallots.push.Goals as goal
use Rattle.ballot_table.proofs.growing.GrowingBallots.push.Goals.{in-Many-1, in-Few-1}

pub returns-then-is_same-clause-added : goal.returns-then-is_same-clause-added
returns-then-is_same-clause-added c =
    let done = c.self.inside.done.lines in
    let last = c.in-Some.last in
    let more = plain_more done last c.args.line (c.if-is_same.ensures.same refl) in
    let old : plain (done ++ last ∷ []) ≡ plain c.args.self.now.lines =
    ap (λ (o : Option BallotLine). plain (done ++ option_to_list o)) c.in-Some.ensures.value
    ∙ ap (λ (b : BallotList). plain b.lines) c.self.view_is in
    elim c.match-line.branch [
      | in-Many-1 w ↦ ap (λ (b : BallotList). plain b.lines) w.self-is ∙ rw (sym old) more
      | in-Few-1 w ↦ ap (λ (b : BallotList). plain b.lines) w.self-is ∙ rw (sym old) more
    ]
