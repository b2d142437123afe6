-- A history woven of lawful lists is lawful.
use Rattle.std.proofs.Common.{ℕ, ◌≤◌, zero, suc, List, [], ◌∷◌, refl, arith}
use Rattle.std.specs.List.{All}
use Rattle.std.proofs.lemmas.List.Elements.{All-append, All-head, All-tail}
use Rattle.batch_core.specs.declared.entry.Entry.{Entry}
use Rattle.batch_core.specs.Book.{strike}
use Rattle.batch_core.specs.Lawful.{MayStep}
use Rattle.call_register.specs.Marks.{MayMark}
use Rattle.call_register.specs.Weaving.{Lists, first, rest, without_first, weave_from, freeze_entry, strike_entry}
use Rattle.call_register.specs.declared.mark.Mark.{Mark}
use Rattle.call_register.specs.declared.mark.Mark.TheVariants.{Shard, Freeze, Strike}
use Rattle.call_register.proofs.Woven.{each_rest}

module _ (shards candidates : ℕ) (few : candidates ≤ 250) where
  abbrev May : Entry → Type 0
  May e = MayStep candidates e.call

  cons : (e : Entry) (es : List Entry) → May e → All May es → All May (e ∷ es)
  cons e es may all zero d lt = may
  cons e es may all (suc k) d lt = all k d (omega arith)

  first_of : (es : List Entry) → All May es → All May (first es)
  first_of [] all = all
  first_of (e ∷ es) all = cons e [] (All-head May e es all) (λ k d lt. absurd (omega arith))

  rest_of : (es : List Entry) → All May es → All May (rest es)
  rest_of [] all = all
  rest_of (e ∷ es) all = All-tail May e es all

  pub lawful_woven :
      (struck : List ℕ) (marks : List Mark) (lists : Lists) → All (MayMark shards candidates) marks
      → ((t : ℕ) → All May (lists t)) → All May (weave_from struck marks lists)
  lawful_woven struck [] lists may all = λ k d lt. absurd (omega arith)
  lawful_woven struck (Shard s ∷ marks) lists may all =
      All-append May (first (lists s)) (weave_from struck marks (without_first lists s)) (first_of (lists s) (all s))
      (lawful_woven struck marks (without_first lists s) (All-tail (MayMark shards candidates) (Shard s) marks may)
      (each_rest (λ t l. All May l) lists s (lists s) refl (rest_of (lists s) (all s)) (λ t ne. all t)))
  lawful_woven struck (Freeze c ∷ marks) lists may all =
      cons (freeze_entry c) (weave_from struck marks lists) tt
      (lawful_woven struck marks lists (All-tail (MayMark shards candidates) (Freeze c) marks may) all)
  lawful_woven struck (Strike c k ∷ marks) lists may all =
      let here = All-head (MayMark shards candidates) (Strike c k) marks may in
      let small = here.1 in
      cons (strike_entry struck c k) (weave_from (strike struck k) marks lists) (here.0, omega (arith, small, few))
      (lawful_woven (strike struck k) marks lists (All-tail (MayMark shards candidates) (Strike c k) marks may) all)
