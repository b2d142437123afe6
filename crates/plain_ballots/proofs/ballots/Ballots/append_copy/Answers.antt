use Rattle.std.proofs.Common.{◌≡◌, ℕ, ◌++◌, arith, rules, subst, sym, ap, ◌∙◌}
use Rattle.plain_ballots.specs.Ballots.{IsSound, BallotList, ballot_count}
use Rattle.plain_ballots.proofs.BallotsLemmas.{IsSound-append, ballot_count-append}
use Rattle.plain_ballots.proofs.ballots.Ballots.append_copy.Goals as goal

-- both lists are sound for the same candidates, and together they aren't too many
pub invariant_of-self-2 : goal.invariant_of-self-2
invariant_of-self-2 c =
    let mine = c.self.inside.lines.items in
    let theirs = c.args.other.now.lines in
    let both : c.append.new.self.items ≡ mine ++ theirs = search rules in
    let candidates : c.args.other.now.candidates ≡ c.self.inside.candidates =
    c.requires ∙ sym (ap (λ (b : BallotList). b.candidates) c.self.view_is) in
    let sound : IsSound c.self.inside.candidates theirs =
    subst (λ (n : ℕ). IsSound n theirs) candidates c.lines.ensures.sound in
    let other_count : c.other.inside.total ≡ ballot_count theirs =
    c.other.invariant.1 ∙ ap (λ (b : BallotList). ballot_count b.lines) c.other.view_is in
    rw both (
      IsSound-append _ mine theirs c.self.invariant.0 sound (omega (arith, other_count, c.self.invariant.1)),
      omega (arith, other_count, c.self.invariant.1, ballot_count-append mine theirs),
    )
