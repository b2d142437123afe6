use Rattle.std.proofs.Common.{◌≡◌, ◌<◌, ◌++◌, ◌∷◌, [], get_or, ap, rules, tests, length, map, arith, ◌∙◌, nat_eq, refl, sym, List}
use Rattle.std.specs.Borrow.{Bor}
use Rattle.std.specs.Slice.Iter as slice
use Rattle.std.proofs.lemmas.Iterator.Splits.{YieldsList-from_slice_split}
use Rattle.std.proofs.lemmas.Iterator.Consumers.{YieldsList-turn, YieldsList-end}
use Rattle.std.proofs.lemmas.List.{length-map, length_push, map-append}
use Rattle.std.proofs.lemmas.List.Elements.{All-push, All-same}
use Rattle.meek_words.specs.Numerals.{Word}
use Rattle.import_words.specs.Labels.{IsLabel}
use Rattle.import_words.proofs.PieceLemmas.{pieces_of, piece_is_label, pieces_at_most}
use Rattle.import_words.proofs.reading.rank_list.Goals as goal
use Rattle.import_words.proofs.reading.rank_list.Goals.{In-Some, In-None}

-- this turn's piece is the next of the word's pieces
piece_here : (c : In-Some) → (length c.loop-piece.yielded < length (pieces_of c.args.word.now))
    × (c.in-Some.piece.now ≡ get_or (pieces_of c.args.word.now) (length c.loop-piece.yielded)
    c.in-Some.piece.now)
piece_here c =
    let is = c.into_iter-piece-iterator.ensures.into_iter_gives in
    YieldsList-turn (YieldsList-from_slice_split _ (λ b. nat_eq b 44) c.args.word.now
    (ap (λ s. slice.split_rest s) is ∙ c.split-piece-items.ensures.rest)
    (ap (λ s. slice.split_done s) is ∙ c.split-piece-items.ensures.done) refl
    (λ x r q k. search (rules, tests)))
    c.loop-piece.yielded _ c.loop-piece.yielded_by _ _ c.in-Some.piece c.in-Some.is c.next.ensures.steps

pub returns-then-len-eq-MOST-clause-refused : goal.returns-then-len-eq-MOST-clause-refused
returns-then-len-eq-MOST-clause-refused c _ labels list =
    let here = piece_here (goal.at.returns-then-len-eq-MOST-clause-refused c).In-Some in
    let so_far = ap length c.loop-piece.invariant.same ∙ length-map c.loop-piece.yielded (λ piece. piece.now)
    in
    omega (arith, so_far, here.0, pieces_at_most c.args.word.now labels list)

pub returns-in_err-label-clause-refused : goal.returns-in_err-label-clause-refused
returns-in_err-label-clause-refused c refused labels list =
    let here = piece_here (goal.at.returns-in_err-label-clause-refused c).In-Some in
    c.in_err-label.ensures.refused (grind (arith, c.from_residual.ensures, refused))
    (piece_is_label c.args.word.now labels list (length c.loop-piece.yielded) c.in-Some.piece.now here.0
    here.1)

pub loop-piece-preserved : goal.loop-piece-preserved
loop-piece-preserved c =
    let texts : List Word = map (λ piece. piece.now) c.loop-piece.yielded in
    let more = map-append (λ (piece : Bor Word). piece.now) c.loop-piece.yielded (c.in-Some.piece ∷ []) in
    let so_far = ap length c.loop-piece.invariant.same ∙ length-map c.loop-piece.yielded (λ piece. piece.now)
    in
    record {
      same =
          c.in_ok-push.ensures.ok
          ∙ (λ j. c.loop-piece.invariant.same j ++ c.in_ok-label.ensures.label j ∷ []) ∙ sym more;
      labels =
          All-same IsLabel _ (texts ++ c.in-Some.piece.now ∷ []) more
          (All-push IsLabel texts c.in-Some.piece.now c.loop-piece.invariant.labels
          c.in_ok-label.ensures.accepted);
      few = omega (arith, so_far, length_push c.loop-piece.yielded c.in-Some.piece);
    }

pub returns-clause-accepted : goal.returns-clause-accepted
returns-clause-accepted c =
    let is = c.into_iter-piece-iterator.ensures.into_iter_gives in
    let end =
    YieldsList-end (YieldsList-from_slice_split _ (λ b. nat_eq b 44) c.args.word.now
    (ap (λ s. slice.split_rest s) is ∙ c.split-piece-items.ensures.rest)
    (ap (λ s. slice.split_done s) is ∙ c.split-piece-items.ensures.done) refl
    (λ x r q k. search (rules, tests)))
    c.loop-piece.yielded _ c.loop-piece.yielded_by _ _ c.in-None.is c.next.ensures.steps in
    let so_far = ap length c.loop-piece.invariant.same ∙ length-map c.loop-piece.yielded (λ piece. piece.now)
    in
    record {
      pieces = c.loop-piece.invariant.same ∙ end.0;
      few = omega (arith, so_far, c.loop-piece.invariant.few);
      all = All-same IsLabel _ _ c.loop-piece.invariant.same c.loop-piece.invariant.labels;
    }
