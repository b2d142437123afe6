use Rattle.std.proofs.Common.{◌≡◌, ℕ, ◌-◌, true, nat_le, slice_index, ap, sym, ◌∙◌}
use Rattle.candidate_roll.specs.State.{state_at}
use Rattle.meek_rule.specs.Situation.{is_hopeful}
use Rattle.meek_rule.proofs.TieLemmas.{is_tied-lowest}
use Rattle.meek_rule.proofs.ties.is_tied.Goals as goal

pub returns-then-is_hopeful : goal.returns-then-is_hopeful
returns-then-is_hopeful g c =
    let vote : c.units.result ≡ slice_index c.args.votes.now c.args.p = c.units.ensures.value ∙ c.get.ensures in
    let hopeful : is_hopeful (state_at c.args.states.now c.args.p) ≡ true =
    sym c.is_hopeful.ensures ∙ c.if-is_hopeful.true in
    ap (λ (k : ℕ). nat_le (k - c.args.lowest) c.units-then-is_hopeful.result) vote
    ∙ (ap (λ (k : ℕ). nat_le (slice_index c.args.votes.now c.args.p - c.args.lowest) k) c.units-then-is_hopeful.ensures.value
    ∙ sym (is_tied-lowest c.args.states.now c.args.votes.now c.args.surplus c.args.lowest c.args.p
    c.requires.lowest c.requires.place hopeful))
