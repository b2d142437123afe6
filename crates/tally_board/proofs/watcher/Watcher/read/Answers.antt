use Rattle.std.proofs.Common.{rules, ◌≡◌, ◌∙◌, sym, subst}
use Rattle.left_right.specs.Sides.{view}
use Rattle.tally_board.specs.Begins.{Begins}
use Rattle.tally_board.specs.Rule.{Looks, candidates_of, shown}
use Rattle.tally_board.specs.Sight.{IsWatcher, candidates_told}
use Rattle.tally_board.specs.Stories.{moves_of}
use Rattle.tally_board.specs.Moves.{totals_after}
use Rattle.tally_board.proofs.MoveLemmas.{are_right}
use Rattle.tally_board.proofs.RuleLemmas.{looks_on}
use Rattle.tally_board.proofs.SightLemmas.{it_goes_on, its_candidates, watcher_after}
use Rattle.tally_board.proofs.watcher.Watcher.read.Goals as goal

pub enter_as-requires : goal.enter_as-requires
enter_as-requires c x = looks_on _ _ x

pub invariant_of-self : goal.invariant_of-self
invariant_of-self c =
    let v =
    view c.in-Some.reader.place in
    let b =
    c.in-Ok.reading.part.value in
    let w = view c.in-Ok.reading.place in let moves = moves_of c.self.inside.seen.value in
    let z = c.self.inside.told.board in
    let is : IsWatcher v z moves = search rules in
    let saw : Looks v b b w = search rules in
    let back : view c.leave.result.place ≡ w = search rules in
    let on = watcher_after v w b z moves is saw moves (it_goes_on v w b z moves is saw) in
    (subst (λ u. IsWatcher u z moves) (sym back) on, c.self.invariant.1)

pub returns-else-not-shows-clause-seen : goal.returns-else-not-shows-clause-seen
returns-else-not-shows-clause-seen c =
    let v =
    view c.in-Some.reader.place in
    let b =
    c.in-Ok.reading.part.value in
    let w = view c.in-Ok.reading.place in let moves = moves_of c.self.inside.seen.value in
    let z = c.self.inside.told.board in
    let is : IsWatcher v z moves = search rules in
    let saw : Looks v b b w = search rules in
    let was : c.args.self.now.seen ≡ moves = search rules in
    let now : moves_of c.of.result.value ≡ shown b = search rules in
    subst (λ ms. Begins ms (moves_of c.of.result.value)) (sym was)
    (subst (Begins moves) (sym now) (it_goes_on v w b z moves is saw))

pub returns-else-not-shows-clause-totals : goal.returns-else-not-shows-clause-totals
returns-else-not-shows-clause-totals c =
    let v =
    view c.in-Some.reader.place in
    let b =
    c.in-Ok.reading.part.value in
    let w = view c.in-Ok.reading.place in let moves = moves_of c.self.inside.seen.value in
    let z = c.self.inside.told.board in
    let is : IsWatcher v z moves = search rules in
    let saw : Looks v b b w = search rules in
    let n_is : c.args.self.now.candidates ≡ candidates_told v = search rules in
    let n : c.args.self.now.candidates ≡ candidates_of b = n_is ∙ its_candidates v w b z moves is saw in
    let right : b.totals ≡ totals_after (candidates_of b) (shown b) = are_right b.totals (shown b) b.right saw.2 in
    let got : c.copy_from.new.self ≡ b.totals = search rules in
    let now : moves_of c.of.result.value ≡ shown b = search rules in
    got ∙ (right ∙ (λ i. totals_after (sym n i) (sym now i)))
