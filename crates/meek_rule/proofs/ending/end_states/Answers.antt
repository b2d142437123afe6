use Rattle.std.proofs.Common.{arith, length}
use Rattle.std.proofs.lemmas.List.FromFn.{fill_by_all}
use Rattle.candidate_roll.specs.State.{state_at}
use Rattle.candidate_roll.specs.declared.state.State.TheVariants.{Withdrawn}
use Rattle.meek_rule.specs.Situation.{final_state}
use Rattle.meek_rule.proofs.ending.end_states.Goals as goal

pub returns : goal.returns
returns c =
    fill_by_all (λ p. final_state c.args.full (state_at c.args.states.now p)) c.loop-p.states
    (length c.args.states.now) Withdrawn c.loop-p.invariant.same_length
    (λ q below. c.loop-p.invariant.done q (omega arith))
