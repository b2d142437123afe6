use Rattle.std.proofs.Common.{rules, ◌≡◌, [], ◌++◌, drop, Some, ap, ◌∙◌, sym, subst}
use Rattle.left_right.specs.Sides.{view}
use Rattle.tally_board.specs.Rule.{candidates_of, shown, Looks}
use Rattle.tally_board.specs.Desk.{IsScribe, steps}
use Rattle.tally_board.specs.contracts.scribe.Scribe.{the_view, the_invariant}
use Rattle.tally_board.proofs.RuleLemmas.{of_ok}
use Rattle.tally_board.proofs.DeskLemmas.{Took, publishes, scribe_after, same_candidates, shows_all}
use Rattle.tally_board.proofs.scribe.Scribe.publish.Goals as goal

pub publish_as-writer-requires : goal.publish_as-writer-requires
publish_as-writer-requires g c next now =
    let w = c.in-Some.writer in let b = w.desk.shown.value in let es = drop w.behind w.log.items in
    let is : IsScribe (view w.desk.place) b es c.self.inside.chronicle = search rules in
    publishes (view w.desk.place) b next es c.self.inside.chronicle is now _

pub invariant_of-self : goal.invariant_of-self
invariant_of-self g c =
    let w =
    c.in-Some.writer in
    let b =
    w.desk.shown.value in
    let es = drop w.behind w.log.items in let up = c.publish_as-writer.result.0 in
    let is : IsScribe (view w.desk.place) b es c.self.inside.chronicle = search rules in
    let home : c.replace.new.dest ≡ Some up = search rules in
    let ok = c.publish_as-writer.ensures.succeeds tt in
    let went : Took b up.desk.shown.value es × (drop up.behind up.log.items ≡ []) =
    of_ok _ _ c.publish_as-writer.result.1 ok c.publish_as-writer.ensures.values in
    let saw : Looks (view w.desk.place) b up.desk.shown.value (view up.desk.place) =
    of_ok _ _ c.publish_as-writer.result.1 ok c.publish_as-writer.ensures.rule in
    let fine : IsScribe (view up.desk.place) up.desk.shown.value (drop up.behind up.log.items) c.self.inside.chronicle =
    rw went.1 (scribe_after (view w.desk.place) b up.desk.shown.value es c.self.inside.chronicle is went.0
    (view up.desk.place) saw) in
    subst (λ o. the_invariant (record { writer = o; chronicle = c.self.inside.chronicle })) (sym home) fine

pub returns-clause-published : goal.returns-clause-published
returns-clause-published g c =
    let w =
    c.in-Some.writer in
    let b =
    w.desk.shown.value in
    let es = drop w.behind w.log.items in let up = c.publish_as-writer.result.0 in
    let is : IsScribe (view w.desk.place) b es c.self.inside.chronicle = search rules in
    let home : c.replace.new.dest ≡ Some up = search rules in
    let went : Took b up.desk.shown.value es × (drop up.behind up.log.items ≡ []) =
    of_ok _ _ c.publish_as-writer.result.1 (c.publish_as-writer.ensures.succeeds tt)
    c.publish_as-writer.ensures.values in
    let z : c.self.inside.chronicle.board ≡ c.args.self.now.board = search rules in
    let n : candidates_of b ≡ c.args.self.now.candidates = search rules in
    let moves : shown b ≡ c.args.self.now.published = search rules in
    let more : steps es ≡ c.args.self.now.pending = search rules in
    let same = same_candidates (view w.desk.place) b up.desk.shown.value es c.self.inside.chronicle is went.0 in
    let all = shows_all (view w.desk.place) b up.desk.shown.value es c.self.inside.chronicle is went.0 in
    (λ i. the_view (record { writer = home i; chronicle = c.self.inside.chronicle }))
    ∙ (λ i. record {
      board = z i;
      candidates = (same ∙ n) i;
      published = (all ∙ (λ j. moves j ++ more j)) i;
      pending = ap steps went.1 i;
    })

pub returns-clause-note : goal.returns-clause-note
returns-clause-note g c =
    let w =
    c.in-Some.writer in
    let b =
    w.desk.shown.value in
    let es = drop w.behind w.log.items in let up = c.publish_as-writer.result.0 in
    let is : IsScribe (view w.desk.place) b es c.self.inside.chronicle = search rules in
    let home : c.replace.new.dest ≡ Some up = search rules in
    let went : Took b up.desk.shown.value es × (drop up.behind up.log.items ≡ []) =
    of_ok _ _ c.publish_as-writer.result.1 (c.publish_as-writer.ensures.succeeds tt)
    c.publish_as-writer.ensures.values in
    let all = shows_all (view w.desk.place) b up.desk.shown.value es c.self.inside.chronicle is went.0 in
    let after :
    the_view (record { writer = Some up; chronicle = c.self.inside.chronicle })
    ≡ the_view (record { writer = c.replace.new.dest; chronicle = c.self.inside.chronicle }) =
    λ i. the_view (record { writer = sym home i; chronicle = c.self.inside.chronicle }) in (
      ap (λ t. t.board) c.note-note.ensures ∙ ap (λ d. d.board) after,
      ap (λ t. t.moves) c.note-note.ensures ∙ (is.moves ∙ (sym all ∙ ap (λ d. d.published) after)),
    )
