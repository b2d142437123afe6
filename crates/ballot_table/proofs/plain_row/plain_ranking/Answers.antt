use Rattle.std.proofs.Common.{List, ℕ, refl, sym, subst}
use Rattle.std.proofs.lemmas.List.{get_or-replicate}
use Rattle.ballot_table.specs.Asked.{asked_of}
use Rattle.ballot_table.specs.PlainRows.{IsPlainRow}
use Rattle.ballot_table.proofs.PlainRows.{is_plain_row}
use Rattle.ballot_table.proofs.plain_row.plain_ranking.Goals as goal

pub new-requires : goal.new-requires
new-requires c =
    let plain = c.if-not-has_plain_ranks.ensures.0 refl in
    let are = c.if-not-are_candidates.ensures.0 refl in
    let some = c.if-not-are_held.ensures.0 refl in
    let is =
    is_plain_row (asked_of c.args.asked.now) plain c.args.columns.now c.args.sheet.now.texts c.cells.result.now
    c.place_each.new.placed c.in-Some.ranked are c.cells.ensures c.in-Some.ensures c.if-ranked-ge-RANKS.false
    c.requires.texts some in
    record { positive = λ k d inside. (is.sound.numbers k d inside).0; different = is.sound.different }

pub returns : goal.returns
returns c =
    let plain = c.if-not-has_plain_ranks.ensures.0 refl in
    let are = c.if-not-are_candidates.ensures.0 refl in
    let some = c.if-not-are_held.ensures.0 refl in
    subst
    (λ (ranking : List ℕ). IsPlainRow (asked_of c.args.asked.now) c.args.columns.now c.args.sheet.now.texts ranking)
    (sym c.in_ok-ranking.ensures)
    (is_plain_row (asked_of c.args.asked.now) plain c.args.columns.now c.args.sheet.now.texts c.cells.result.now
    c.place_each.new.placed c.in-Some.ranked are c.cells.ensures c.in-Some.ensures c.if-ranked-ge-RANKS.false
    c.requires.texts some)

pub place_each-requires : goal.place_each-requires
place_each-requires c = λ k d inside. get_or-replicate 100 k 0 d inside
