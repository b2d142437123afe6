use Rattle.std.proofs.Common.{◌≡◌, ℕ, ◌+◌, ◌<◌, List, [], ◌∷◌, ◌++◌, length, take, sym, ◌∙◌, ap, Option}
use Rattle.std.proofs.Common.{Vec, Global, ℕ, sym, ◌∙◌, ap}
use Rattle.std.specs.Option.{option_to_list}
use Rattle.std.proofs.lemmas.List.{append-nil}
use Rattle.batch_core.specs.Book.{BookState, empty}
use Rattle.batch_core.specs.Histories.{after_all}
use Rattle.day_replay.specs.Places.{struck_by}
use Rattle.day_replay.proofs.HistoryFronts.{book_here, reply_here, struck_more}
use Rattle.day_replay.proofs.standing.struck_in.Goals.{in-Some+in_ok-push-in-Some, in-None}
use Rattle.day_replay.proofs.standing.struck_in.Goals as goal

pub loop-entry-preserved : goal.loop-entry-preserved
loop-entry-preserved c =
    let entries = c.args.entries.now in
    let k = c.loop-entry.entry-index in
    let e = c.entry-item.result in
    let at = c.entry-item.is in
    let inside : k < length entries = c.loop-entry-test.true in
    let before = after_all empty (take k entries) in
    let base : (after_all empty (take (k + 1) entries)).struck ≡ before.struck ++ option_to_list (struck_by e.call e.reply) =
    ap (λ (b : BookState). b.struck) (book_here entries k e inside at c.a_book_answers_a_history.ensures.book)
    ∙ struck_more before e.call e.reply
    (reply_here entries k e inside at c.a_legal_history_has_the_books_replies.ensures c.requires) in
    elim c.match-struck_by.branch [
      | in-Some+in_ok-push-in-Some w ↦
          ap (λ (v : Vec ℕ Global). v.items) w.struck-is
          ∙ (w.in_ok-push-in-Some.ensures.items
          ∙ (ap (λ (l : List ℕ). l ++ w.in-Some.candidate ∷ []) c.loop-entry.invariant
          ∙ (ap (λ (o : Option ℕ). before.struck ++ option_to_list o) (sym w.in-Some.is ∙ c.struck_by.ensures) ∙ sym base)))
      | in-None w ↦
          ap (λ (v : Vec ℕ Global). v.items) w.struck-is
          ∙ (c.loop-entry.invariant
          ∙ (sym (append-nil before.struck)
          ∙ (ap (λ (o : Option ℕ). before.struck ++ option_to_list o) (sym w.in-None.is ∙ c.struck_by.ensures) ∙ sym base)))
    ]
