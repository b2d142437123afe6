use Rattle.std.proofs.Common.{◌≡◌, ℕ, ◌<◌, List, [], ◌∷◌, ◌++◌, length, take, sym, ◌∙◌, ap, subst, arith}
use Rattle.std.proofs.lemmas.List.{length-take-le}
use Rattle.batch_core.specs.declared.entry.Entry.{Entry}
use Rattle.day_reader.specs.Said.{IsAnswerable}
use Rattle.day_replay.specs.Places.{ArePlaces, placed_by}
use Rattle.day_replay.proofs.HistoryFronts.{front_more, reply_here}
use Rattle.day_replay.proofs.PlaceLemmas.{no_places, placed_on}
use Rattle.day_replay.proofs.standing.places_in.Goals as goal

pub loop-place-init : goal.loop-place-init
loop-place-init c = subst (ArePlaces []) (sym c.in_ok-places.ensures) no_places

pub loop-place-preserved : goal.loop-place-preserved
loop-place-preserved c =
    let entries = c.args.entries.now in
    let k = c.loop-place.place in
    let e = c.index-entries-place.result in
    let at = c.index-entries-place.is in
    let inside : k < length entries = c.loop-place-test.true in
    let places = c.loop-place.places.items in
    let long : length (take k entries) ≡ k = length-take-le k entries (omega (arith, inside)) in
    let answerable = c.requires.answerable in
    subst (λ (l : List Entry). ArePlaces l c.note.new.places.items) (sym (front_more entries k e inside at))
    (subst (ArePlaces (take k entries ++ e ∷ []))
    (sym (c.note.ensures ∙ ap (λ (m : ℕ). placed_by places e.call e.reply m) (sym long)))
    (placed_on c.a_book_answers_a_history.ensures.book (take k entries) places c.loop-place.invariant answerable.0
    e.caller e.call e.reply
    (subst (λ (x : Entry). IsAnswerable answerable.0 x.call) (sym at) (answerable.1 k e inside))
    (reply_here entries k e inside at c.a_legal_history_has_the_books_replies.ensures c.requires.legal)))
