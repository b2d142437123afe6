use Rattle.std.proofs.Common.{◌≡◌, [], drop, ap, ◌∙◌}
use Rattle.left_right.specs.Sides.{view}
use Rattle.tally_board.specs.declared.board.Board.{Board}
use Rattle.tally_board.specs.Rule.{Looks, candidates_of, shown}
use Rattle.tally_board.specs.Told.{Told}
use Rattle.tally_board.proofs.DeskLemmas.{Took, begins_on, begun}
use Rattle.tally_board.proofs.RuleLemmas.{of_ok}
use Rattle.tally_board.proofs.opening.open_writer.Goals as goal

pub publish_as-writer-requires : goal.publish_as-writer-requires
publish_as-writer-requires g c next now =
    let w = c.in-Ok.writer in
    let made = c.in-Ok.ensures in
    let first = c.in_ok-first.ensures in
    begins_on _ _ w.desk.shown.value next (drop w.behind w.log.items) made.1 (ap shown made.0 ∙ first.0)
    (ap (λ (b : Board). b.before.moves) made.0 ∙ ap (λ (t : Told). t.moves) first.2 ∙ c.requires.fresh) now

pub returns : goal.returns
returns g c =
    let w = c.in-Ok.writer in
    let made = c.in-Ok.ensures in
    let first = c.in_ok-first.ensures in
    let es = drop w.behind w.log.items in
    let b = w.desk.shown.value in
    let up = c.publish_as-writer.result.0 in
    let ok = c.publish_as-writer.ensures.succeeds tt in
    let went : Took b up.desk.shown.value es × (drop up.behind up.log.items ≡ []) =
    of_ok _ _ c.publish_as-writer.result.1 ok c.publish_as-writer.ensures.values in
    let saw : Looks (view w.desk.place) b up.desk.shown.value (view up.desk.place) =
    of_ok _ _ c.publish_as-writer.result.1 ok c.publish_as-writer.ensures.rule in
    begun c.args.candidates c.args.note.now (view w.desk.place) (view up.desk.place) b up.desk.shown.value es
    (drop up.behind up.log.items) made.1 went.1 (ap shown made.0 ∙ first.0) (ap candidates_of made.0 ∙ first.1)
    (ap (λ (b : Board). b.before) made.0 ∙ first.2) c.requires.fresh went.0 saw
