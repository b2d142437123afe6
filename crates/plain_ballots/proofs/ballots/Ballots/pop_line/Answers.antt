use Rattle.std.proofs.Common.{◌≡◌, ◌++◌, ◌∷◌, [], List, arith, subst}
use Rattle.plain_ballots.specs.declared.ballot_line.BallotLine.{BallotLine}
use Rattle.plain_ballots.specs.Ballots.{IsSound, ballot_count}
use Rattle.plain_ballots.proofs.BallotsLemmas.{IsSound-front, ballot_count-push}
use Rattle.plain_ballots.proofs.ballots.Ballots.pop_line.Goals as goal

-- the lines before the last are sound, and their total is less by its count
pub invariant_of-self-2 : goal.invariant_of-self-2
invariant_of-self-2 c =
    let line = c.in_ok-line.line in
    let rest = c.pop.new.self.items in
    let sound : IsSound c.self.inside.candidates (rest ++ line ∷ []) =
    subst (IsSound c.self.inside.candidates) c.in_ok-line.ensures.items c.self.invariant.0 in
    let total : c.self.inside.total ≡ ballot_count (rest ++ line ∷ []) =
    subst (λ (l : List BallotLine). c.self.inside.total ≡ ballot_count l) c.in_ok-line.ensures.items
    c.self.invariant.1 in
    rw c.give_back.ensures
    (IsSound-front c.self.inside.candidates rest line sound, omega (arith, total, ballot_count-push rest line))
