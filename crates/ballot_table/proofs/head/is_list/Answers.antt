use Rattle.std.proofs.Common.{◌≡◌, ◌==◌, arith, ℕ, Bool, true, false, ◌&&◌, ◌∷◌, [], List, get_or, ap, rules, tests, length, map, refl, sym, ◌∙◌}
use Rattle.std.specs.Borrow.{Bor}
use Rattle.std.specs.List.{list_all}
use Rattle.std.specs.Result.{is_ok}
use Rattle.std.specs.Slice.Iter as slice
use Rattle.std.proofs.lemmas.Iterator.Splits.{YieldsList-from_slice_split}
use Rattle.std.proofs.lemmas.Iterator.Consumers.{YieldsList-turn, YieldsList-end}
use Rattle.std.proofs.lemmas.List.{length-map, get_or-map}
use Rattle.std.proofs.lemmas.List.Folds.{list_all-append, list_all_at}
use Rattle.ballot_table.specs.Asked.{asked_of}
use Rattle.ballot_table.specs.Cells.{says_in}
use Rattle.ballot_table.specs.Texts.{trimmed}
use Rattle.ballot_table.proofs.PartLemmas.{pieces_of, trimmed_each}
use Rattle.ballot_table.proofs.head.is_list.Goals as goal

each_part : (P : List ℕ → Bool) (pieces : List (Bor (List ℕ)))
    → list_all P (map (λ (p : Bor (List ℕ)). trimmed p.now) pieces) ≡ list_all (λ p. P (trimmed p.now)) pieces
each_part P [] = refl
each_part P (p ∷ pieces) = ap (λ (b : Bool). P (trimmed p.now) && b) (each_part P pieces)

pub loop-part-init : goal.loop-part-init
loop-part-init c = refl

pub loop-part-preserved : goal.loop-part-preserved
loop-part-preserved c =
    let P = λ (p : Bor (List ℕ)). is_ok (says_in (asked_of c.args.asked.now) (trimmed p.now)) in
    let here : P c.in-Some.part ≡ true =
    ap (λ (text : List ℕ). is_ok (says_in (asked_of c.args.asked.now) text)) (sym c.trimmed.ensures)
    ∙ sym c.may_be_said.ensures ∙ c.if-not-may_be_said.false in
    list_all-append P c.loop-part.yielded (c.in-Some.part ∷ [])
    ∙ ap (λ (b : Bool). b && (P c.in-Some.part && true)) c.loop-part.invariant
    ∙ ap (λ (b : Bool). b && true) here

pub returns-then-not-may_be_said : goal.returns-then-not-may_be_said
returns-then-not-may_be_said c =
    let is = c.into_iter-part-iterator.ensures.into_iter_gives in
    let text = c.args.text.now in
    let road =
    YieldsList-from_slice_split _ (λ b. b == 59) text
    (ap (λ s. slice.split_rest s) is ∙ c.split-part-items.ensures.rest)
    (ap (λ s. slice.split_done s) is ∙ c.split-part-items.ensures.done) refl
    (λ x r q k. search (rules, tests)) in
    let turn =
    YieldsList-turn road c.loop-part.yielded _ c.loop-part.yielded_by _ _ c.in-Some.part c.in-Some.is
    c.next.ensures.steps in
    let P = λ (part : List ℕ). is_ok (says_in (asked_of c.args.asked.now) part) in
    let at = length c.loop-part.yielded in
    let pieces = pieces_of text in
    let faulty : P (trimmed (get_or pieces at c.in-Some.part.now)) ≡ false =
    ap (λ (piece : List ℕ). P (trimmed piece)) (sym turn.1) ∙ ap P (sym c.trimmed.ensures)
    ∙ sym c.may_be_said.ensures ∙ c.if-not-may_be_said.true in
    sym (list_all_at P (map trimmed pieces) at (trimmed c.in-Some.part.now)
    (let long = length-map pieces trimmed in omega (arith, long, turn.0))
    (ap P (get_or-map trimmed pieces at c.in-Some.part.now (trimmed c.in-Some.part.now) turn.0) ∙ faulty))

pub returns : goal.returns
returns c =
    let is = c.into_iter-part-iterator.ensures.into_iter_gives in
    let yielded = c.loop-part.yielded in
    let end =
    YieldsList-end (YieldsList-from_slice_split _ (λ b. b == 59) c.args.text.now
    (ap (λ s. slice.split_rest s) is ∙ c.split-part-items.ensures.rest)
    (ap (λ s. slice.split_done s) is ∙ c.split-part-items.ensures.done) refl
    (λ x r q k. search (rules, tests)))
    yielded _ c.loop-part.yielded_by _ _ c.in-None.is c.next.ensures.steps in
    let P = λ (part : List ℕ). is_ok (says_in (asked_of c.args.asked.now) part) in
    sym (ap (λ (pieces : List (List ℕ)). list_all P (map trimmed pieces)) (sym end.0)
    ∙ ap (list_all P) (sym (trimmed_each yielded)) ∙ each_part P yielded ∙ c.loop-part.invariant)
