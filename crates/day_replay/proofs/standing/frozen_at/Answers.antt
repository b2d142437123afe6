use Rattle.std.proofs.Common.{◌≡◌, ℕ, ◌-◌, List, take, sym, ◌∙◌, ap, subst, arith}
use Rattle.std.specs.Prelude.{All}
use Rattle.batch_core.specs.declared.entry.Entry.{Entry}
use Rattle.batch_core.specs.Book.{empty}
use Rattle.batch_core.specs.Histories.{IsLegal, after_all}
use Rattle.frozen_plan.specs.Plan.{PlanRows}
use Rattle.day_replay.proofs.Freezing.{stands_at}
use Rattle.day_replay.proofs.HistoryFronts.{front_legal}
use Rattle.day_replay.proofs.Stood.{front_answerable, struck_are, stood, few_stood}
use Rattle.day_replay.proofs.standing.frozen_at.Goals as goal

pub struck_in-requires : goal.struck_in-requires
struck_in-requires g c =
    subst (λ (l : List Entry). IsLegal (take (c.args.at - 1) l)) (sym (c.items.ensures ∙ c.entries.ensures))
    (front_legal c.args.history.now (c.args.at - 1) c.requires.legal)

pub places_in-requires-clause-legal : goal.places_in-requires-clause-legal
places_in-requires-clause-legal g c =
    subst (λ (l : List Entry). IsLegal (take (c.args.at - 1) l)) (sym (c.items.ensures ∙ c.entries.ensures))
    (front_legal c.args.history.now (c.args.at - 1) c.requires.legal)

pub places_in-requires-clause-answerable : goal.places_in-requires-clause-answerable
places_in-requires-clause-answerable g c = (
  c.args.candidates,
  front_answerable c.args.candidates c.requires.candidates c.args.history.now c.items.result.now (c.args.at - 1)
      (c.items.ensures ∙ c.entries.ensures) c.requires.answerable,
)

pub invariant_of-result : goal.invariant_of-result
invariant_of-result g c =
    let m = c.args.candidates in
    let most = c.requires.candidates in
    let history = c.args.history.now in
    let items = c.items.result.now in
    let n = c.args.at - 1 in
    let all = c.items.ensures ∙ c.entries.ensures in (
      subst (λ (k : ℕ). All (λ (plan : PlanRows). plan.candidates ≡ k) c.in_ok-plans.plans)
          c.in_ok-packed.ensures.candidates c.in_ok-plans.ensures.candidates,
      few_stood m most history items n all c.requires.answerable c.in_ok-places.places.items c.as_slice.result.now
          c.in_ok-places.ensures c.as_slice.ensures.value c.in_ok-packed.packed.lines c.in_ok-packed.ensures.ballots
          c.in_ok-plans.plans c.in_ok-plans.ensures.ballots,
      struck_are m most history items n all c.requires.answerable c.in_ok-struck.struck.items c.in_ok-struck.ensures,
    )

pub returns-clause-stands : goal.returns-clause-stands
returns-clause-stands g c =
    let history = c.args.history.now in
    let items = c.items.result.now in
    let n = c.args.at - 1 in
    let all = c.items.ensures ∙ c.entries.ensures in
    stands_at c.a_book_answers_a_history.ensures.book c.a_legal_history_has_the_books_replies.ensures history
    c.requires.legal n c.requires.freeze.0 c.requires.freeze.1 c.requires.freeze.2 _
    (let some = c.requires.some in omega (arith, some))
    (stood c.args.candidates c.requires.candidates history items n all c.requires.answerable c.in_ok-places.places.items
    c.as_slice.result.now c.in_ok-places.ensures c.as_slice.ensures.value c.in_ok-packed.packed.lines
    c.in_ok-packed.ensures.ballots c.in_ok-plans.plans c.in_ok-plans.ensures.ballots)
    (c.in_ok-struck.ensures ∙ ap (λ (l : List Entry). (after_all empty (take n l)).struck) all)
