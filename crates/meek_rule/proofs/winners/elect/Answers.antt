use Rattle.std.proofs.Common.{ℕ, cond, arith, length}
use Rattle.std.proofs.lemmas.List.FromFn.{fill_by_all}
use Rattle.candidate_roll.specs.State.{state_at}
use Rattle.lot_order.specs.Flags.{mark_at}
use Rattle.candidate_roll.specs.declared.state.State.{State}
use Rattle.candidate_roll.specs.declared.state.State.TheVariants.{Elected, Withdrawn}
use Rattle.meek_rule.proofs.winners.elect.Goals as goal

pub returns : goal.returns
returns c =
    let after : ℕ → State = λ q. cond (mark_at c.args.winners.now q) Elected (state_at c.args.states.now q) in
    fill_by_all after c.loop-p.states (length c.args.states.now) Withdrawn c.loop-p.invariant.same_length
    (λ q below. c.loop-p.invariant.done q (omega arith))
