use Rattle.std.proofs.Common.{arith, length, slice_index, ◌∙◌}
use Rattle.std.proofs.lemmas.List.FromFn.{fill_by_all}
use Rattle.candidate_roll.specs.State.{state_at}
use Rattle.meek_rule.specs.Situation.{final_keep}
use Rattle.meek_rule.proofs.ending.end_keeps.Goals as goal

pub returns : goal.returns
returns g c =
    fill_by_all (λ p. final_keep c.args.full (state_at c.args.states.now p) (slice_index c.args.keeps.now p))
    c.loop-p.keeps (length c.args.states.now) 0 (c.loop-p.invariant.same_length ∙ c.requires)
    (λ q below. c.loop-p.invariant.done q (omega arith))
