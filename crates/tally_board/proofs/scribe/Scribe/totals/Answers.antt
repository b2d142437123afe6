use Rattle.std.proofs.Common.{rules, ◌≡◌, drop, ◌∙◌}
use Rattle.left_right.specs.Sides.{view}
use Rattle.tally_board.specs.Rule.{candidates_of, shown}
use Rattle.tally_board.specs.Desk.{IsScribe, steps}
use Rattle.tally_board.specs.Moves.{totals_after}
use Rattle.tally_board.proofs.MoveLemmas.{are_right, front_story}
use Rattle.tally_board.proofs.scribe.Scribe.totals.Goals as goal

pub returns : goal.returns
returns c =
    let w = c.in-Some.writer in let b = w.desk.shown.value in let es = drop w.behind w.log.items in
    let is : IsScribe (view w.desk.place) b es c.self.inside.chronicle = search rules in
    let got : c.published.result.now.totals ≡ b.totals = search rules in
    let n : candidates_of b ≡ c.args.self.now.candidates = search rules in
    let moves : shown b ≡ c.args.self.now.published = search rules in
    got
    ∙ (are_right b.totals (shown b) b.right (front_story (candidates_of b) (shown b) (steps es) is.story)
    ∙ (λ i. totals_after (n i) (moves i)))
