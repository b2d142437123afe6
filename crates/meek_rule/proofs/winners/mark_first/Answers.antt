use Rattle.std.proofs.Common.{◌≡◌, false, arith, ◌∙◌, length}
use Rattle.std.proofs.lemmas.List.FromFn.{fill_by_all}
use Rattle.meek_rule.specs.Precedence.{has_won}
use Rattle.meek_rule.specs.Places.{each_place}
use Rattle.meek_rule.proofs.WinnersByCount.{winners_by_rank}
use Rattle.meek_rule.proofs.winners.mark_first.Goals as goal

pub returns : goal.returns
returns g c =
    let won = has_won c.args.states.now c.args.free c.args.votes.now c.args.lots.now c.args.quota in
    let marks : c.loop-p.marks ≡ each_place (length c.args.states.now) won =
    fill_by_all won c.loop-p.marks (length c.args.states.now) false
    (c.loop-p.invariant.same_length ∙ c.requires.marks_of_all)
    (λ q below. c.loop-p.invariant.marked q (omega arith)) in
    rw marks (winners_by_rank c.args.states.now c.args.free c.args.votes.now c.args.lots.now c.args.quota
    c.candidates-order.ensures.order c.requires.lots_of_all)
