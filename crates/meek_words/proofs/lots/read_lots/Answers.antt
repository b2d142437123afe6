use Rattle.std.proofs.Common.{◌≡◌, ◌<◌, get_or, ap, rules, tests, length, map, arith, ◌∙◌, nat_eq, refl}
use Rattle.std.specs.Slice.Iter as slice
use Rattle.std.proofs.lemmas.Iterator.Splits.{YieldsList-from_slice_split}
use Rattle.std.proofs.lemmas.Iterator.Consumers.{YieldsList-turn, YieldsList-end}
use Rattle.std.proofs.lemmas.List.{length-map}
use Rattle.meek_words.specs.Numerals.{IsLotList, number_of}
use Rattle.meek_words.proofs.LotListLemmas.{pieces_of, one_lot_list, lot_list_from_pieces, piece_is_numeral, pieces_at_most}
use Rattle.meek_words.proofs.lots.read_lots.Goals as goal
use Rattle.meek_words.proofs.lots.read_lots.Goals.{In-Some, In-None}

-- this turn's piece is the next of the word's pieces
piece_here : (c : In-Some) → (length c.loop-part.yielded < length (pieces_of c.args.word.now))
    × (c.in-Some.part.now ≡ get_or (pieces_of c.args.word.now) (length c.loop-part.yielded) c.in-Some.part.now)
piece_here c =
    let is = c.into_iter-part-iterator.ensures.into_iter_gives in
    YieldsList-turn (YieldsList-from_slice_split _ (λ b. nat_eq b 44) c.args.word.now
    (ap (λ s. slice.split_rest s) is ∙ c.split-part-items.ensures.rest)
    (ap (λ s. slice.split_done s) is ∙ c.split-part-items.ensures.done) refl (λ x r q k. search (rules, tests)))
    c.loop-part.yielded _ c.loop-part.yielded_by _ _ c.in-Some.part c.in-Some.is c.next.ensures.steps

pub returns-in_default-clause-refused : goal.returns-in_default-clause-refused
returns-in_default-clause-refused c _ lots list =
    let here = piece_here (goal.at.returns-in_default-clause-refused c).In-Some in
    c.in_default.ensures (piece_is_numeral c.args.word.now lots list (length c.loop-part.yielded)
    c.in-Some.part.now here.0 here.1)

pub returns-then-len-eq-MOST_LOTS-clause-refused : goal.returns-then-len-eq-MOST_LOTS-clause-refused
returns-then-len-eq-MOST_LOTS-clause-refused c _ lots list =
    let here = piece_here (goal.at.returns-then-len-eq-MOST_LOTS-clause-refused c).In-Some in
    let so_far =
    ap length c.loop-part.invariant.numbers
    ∙ length-map (map (λ piece. piece.now) c.loop-part.yielded) number_of
    ∙ length-map c.loop-part.yielded (λ piece. piece.now) in
    omega (arith, so_far, here.0, pieces_at_most c.args.word.now lots list)

-- at the end the lots are the numbers of all pieces
lots_read : (c : In-None) → IsLotList c.args.word.now c.loop-part.lots
lots_read c =
    let is = c.into_iter-part-iterator.ensures.into_iter_gives in
    let end =
    YieldsList-end (YieldsList-from_slice_split _ (λ b. nat_eq b 44) c.args.word.now
    (ap (λ s. slice.split_rest s) is ∙ c.split-part-items.ensures.rest)
    (ap (λ s. slice.split_done s) is ∙ c.split-part-items.ensures.done) refl (λ x r q k. search (rules, tests)))
    c.loop-part.yielded _ c.loop-part.yielded_by _ _ c.in-None.is c.next.ensures.steps in
    lot_list_from_pieces c.args.word.now c.loop-part.lots (map (λ piece. piece.now) c.loop-part.yielded) end.0
    c.loop-part.invariant.numbers c.loop-part.invariant.numerals
    (simp length-map c.loop-part.invariant.few)

pub returns-clause-accepted : goal.returns-clause-accepted
returns-clause-accepted c = lots_read c

pub returns-clause-one : goal.returns-clause-one
returns-clause-one c lots list = one_lot_list c.args.word.now c.loop-part.lots lots (lots_read c) list
