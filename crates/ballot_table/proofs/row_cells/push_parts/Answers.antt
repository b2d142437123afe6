use Rattle.std.proofs.Common.{◌≡◌, ◌<◌, ◌==◌, ◌∷◌, [], get_or, ap, rules, tests, length, map, take, arith, ◌∙◌, refl, sym, subst}
use Rattle.std.proofs.Common.{List, ℕ, None}
use Rattle.std.specs.Borrow.{Bor}
use Rattle.std.specs.Slice.Iter as slice
use Rattle.std.proofs.lemmas.Iterator.Splits.{YieldsList-from_slice_split}
use Rattle.std.proofs.lemmas.Iterator.Consumers.{YieldsList-turn, YieldsList-so_far, YieldsList-end}
use Rattle.std.proofs.lemmas.List.{length-map, map-append}
use Rattle.ballot_table.specs.Asked.{asked_of}
use Rattle.ballot_table.specs.Cells.{says_in, fault_one, all_of}
use Rattle.ballot_table.specs.Faults.{sound_one}
use Rattle.ballot_table.specs.Finding.{SaysAll}
use Rattle.ballot_table.specs.Texts.{parts, trimmed}
use Rattle.ballot_table.proofs.PartLemmas.{ArePushed, all_pushed, part_faulty, pieces_of, pushed_more, trimmed_each}
use Rattle.ballot_table.proofs.row_cells.push_parts.Goals as goal
use Rattle.ballot_table.proofs.row_cells.push_parts.Goals.{In-Some, In-None}

-- this turn's part is the next between the semicolons, after those so far
record Next (c : In-Some) : Type 0 where
  inside : length c.loop-part.yielded < length (pieces_of c.args.list.now)
  here : c.in-Some.part.now ≡ get_or (pieces_of c.args.list.now) (length c.loop-part.yielded) c.in-Some.part.now
  front : map (λ (p : Bor (List ℕ)). p.now) c.loop-part.yielded
      ≡ take (length c.loop-part.yielded) (pieces_of c.args.list.now)

part_here : (c : In-Some) → Next c
part_here c =
    let is = c.into_iter-part-iterator.ensures.into_iter_gives in
    let road =
    YieldsList-from_slice_split _ (λ b. b == 59) c.args.list.now
    (ap (λ s. slice.split_rest s) is ∙ c.split-part-items.ensures.rest)
    (ap (λ s. slice.split_done s) is ∙ c.split-part-items.ensures.done) refl
    (λ x r q k. search (rules, tests)) in
    let turn =
    YieldsList-turn road c.loop-part.yielded _ c.loop-part.yielded_by _ _ c.in-Some.part c.in-Some.is
    c.next.ensures.steps in
    record {
      inside = turn.0;
      here = turn.1;
      front = YieldsList-so_far road c.loop-part.yielded _ c.loop-part.yielded_by;
    }

pub returns-in-Err-clause-stop : goal.returns-in-Err-clause-stop
returns-in-Err-clause-stop c =
    let asked = asked_of c.args.asked.now in
    let next = part_here (goal.at.returns-in-Err-clause-stop c).In-Some in
    let yielded = c.loop-part.yielded in
    let long = length-map yielded (λ (p : Bor (List ℕ)). trimmed p.now) in
    let pieces = pieces_of c.args.list.now in
    let piece = c.in-Some.part.now in
    part_faulty asked c.args.list.now (map (λ (p : Bor (List ℕ)). trimmed p.now) yielded) c.args.said.now c.loop-part.said
    piece c.in-Err.kind c.loop-part.invariant
    (trimmed_each yielded ∙ ap (map trimmed) (next.front ∙ ap (λ (n : ℕ). take n pieces) (sym long)))
    (let inside = next.inside in omega (arith, long, inside))
    (next.here ∙ ap (λ (n : ℕ). get_or pieces n piece) (sym long))
    (ap (says_in asked) (sym c.trimmed.ensures) ∙ sym c.in-Err.ensures)

pub loop-part-preserved : goal.loop-part-preserved
loop-part-preserved c =
    let asked = asked_of c.args.asked.now in
    let f = λ (p : Bor (List ℕ)). trimmed p.now in
    let yielded = c.loop-part.yielded in
    subst (λ (texts : List (List ℕ)). ArePushed asked texts c.args.said.now c.push.new.self)
    (sym (map-append f yielded (c.in-Some.part ∷ [])))
    (pushed_more asked (map f yielded) c.args.said.now c.loop-part.said c.push.new.self (trimmed c.in-Some.part.now)
    c.in-Ok.says c.loop-part.invariant
    (ap (says_in asked) (sym c.trimmed.ensures) ∙ sym c.in-Ok.ensures) c.in_ok-push-in-Ok.ensures)

-- after the last part
whole : (c : In-None)
    → (fault_one (all_of (map (says_in (asked_of c.args.asked.now)) (parts c.args.list.now))) ≡ None)
    × SaysAll (sound_one (all_of (map (says_in (asked_of c.args.asked.now)) (parts c.args.list.now)))) c.args.said.now
    c.loop-part.said
whole c =
    let is = c.into_iter-part-iterator.ensures.into_iter_gives in
    let yielded = c.loop-part.yielded in
    let end =
    YieldsList-end (YieldsList-from_slice_split _ (λ b. b == 59) c.args.list.now
    (ap (λ s. slice.split_rest s) is ∙ c.split-part-items.ensures.rest)
    (ap (λ s. slice.split_done s) is ∙ c.split-part-items.ensures.done) refl
    (λ x r q k. search (rules, tests)))
    yielded _ c.loop-part.yielded_by _ _ c.in-None.is c.next.ensures.steps in
    all_pushed (asked_of c.args.asked.now) c.args.list.now (map (λ (p : Bor (List ℕ)). trimmed p.now) yielded)
    c.args.said.now c.loop-part.said c.loop-part.invariant (trimmed_each yielded ∙ ap (map trimmed) end.0)

pub returns-clause-sound : goal.returns-clause-sound
returns-clause-sound c = (whole (goal.at.returns-clause-sound c).In-None).0

pub returns-clause-said : goal.returns-clause-said
returns-clause-said c = (whole (goal.at.returns-clause-said c).In-None).1
