use Rattle.std.proofs.Common.{false, arith, ◌∙◌, length}
use Rattle.std.proofs.lemmas.List.FromFn.{fill_by_all}
use Rattle.meek_rule.specs.Quota.{has_reached}
use Rattle.meek_rule.proofs.winners.mark_reached.Goals as goal

pub returns : goal.returns
returns g c =
    fill_by_all (has_reached c.args.states.now c.args.votes.now c.args.quota) c.loop-p.marks
    (length c.args.states.now) false (c.loop-p.invariant.same_length ∙ c.requires.marks_of_all)
    (λ q below. c.loop-p.invariant.marked q (omega arith))
