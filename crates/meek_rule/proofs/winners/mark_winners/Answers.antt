use Rattle.std.proofs.Common.{◌≡◌, length, arith, ap, ◌∙◌}
use Rattle.std.proofs.lemmas.List.FromFn.{length-map-range_with_len}
use Rattle.meek_rule.specs.Places.{marked_count, count_places}
use Rattle.meek_rule.specs.Quota.{has_reached}
use Rattle.meek_rule.proofs.WinnersByCount.{winners_all}
use Rattle.meek_rule.proofs.winners.mark_winners.Goals as goal

pub mark_first-requires : goal.mark_first-requires
mark_first-requires g c =
    let marks : length c.mark_reached.new.marks ≡ length c.args.states.now =
    ap length c.mark_reached.ensures ∙ length-map-range_with_len _ 0 _ in
    (omega arith, (omega arith, (c.requires.candidates, (c.requires.votes_of_all, (c.requires.lots_of_all, marks)))))

-- there is room for all that have the quota
pub returns-else-count_marked-free : goal.returns-else-count_marked-free
returns-else-count_marked-free g c =
    let reached = has_reached c.args.states.now c.args.votes.now c.args.quota in
    let counted : c.count_marked.result ≡ count_places (length c.args.states.now) reached =
    c.count_marked.ensures ∙ ap marked_count c.mark_reached.ensures in
    rw c.mark_reached.ensures
    (winners_all c.args.states.now c.args.free c.args.votes.now c.args.lots.now c.args.quota (omega arith))
