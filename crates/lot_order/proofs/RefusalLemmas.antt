-- An order of lots is refused for one reason at most.
use Rattle.std.proofs.Common.{◌≡◌, ℕ, ◌-◌, ◌<◌, ◌≤◌, List, length, get_or, take, Contains, arith, refl, ap}
use Rattle.std.proofs.Common.{sym, subst, ◌∙◌, inl, inr}
use Rattle.std.proofs.lemmas.List.{get_or-take, get_or_default, length-take, take_all}
use Rattle.std.proofs.lemmas.Bool.{cases_order}
use Rattle.lot_order.specs.declared.lots_stop.LotsStop.{LotsStop}
use Rattle.lot_order.specs.declared.lots_stop.LotsStop.TheVariants.{NotAll, Twice, OutOfRange, NoMemory}
use Rattle.lot_order.specs.Lots.{IsOrder, AreLots, IsOutOfRangeAt, IsTwiceAt, IsFirstMissing, IsLotsStop, before, number_at}

-- The front before this place is one of lots, and no longer front is.
record IsFaultAt (n : ℕ) (order : List ℕ) (place : ℕ) : Type 0 where
  some : 1 ≤ place
  sound_before : AreLots n (before order place)
  breaks : (m : ℕ) → place ≤ m → ¬ (AreLots n (take m order))

-- lots are a front of themselves
whole : (n : ℕ) (order : List ℕ) → AreLots n order → AreLots n (take (length order) order)
whole n order sound = subst (AreLots n) (sym (take_all (length order) order (omega arith))) sound

-- who is at a place of a front of lots is a candidate
candidate_at :
    (n : ℕ) (order : List ℕ) (m place : ℕ) → AreLots n (take m order) → 1 ≤ place → place ≤ m
    → place ≤ length order → (1 ≤ number_at order place) × (number_at order place ≤ n)
candidate_at n order m place sound some within inside =
    subst (λ (c : ℕ). (1 ≤ c) × (c ≤ n)) (get_or-take m order (place - 1) 0 (omega arith))
    (sound.numbers (place - 1) 0 (omega (arith, length-take m order)))

-- and doesn't stand before it
no_repeat :
    (n : ℕ) (order : List ℕ) (m place : ℕ) → AreLots n (take m order) → 1 ≤ place → place ≤ m
    → place ≤ length order → ¬ (Contains (before order place) (number_at order place))
no_repeat n order m place sound some within inside found =
    let k : ℕ = found.0 in
    let earlier : k < place - 1 = omega (arith, found.1, length-take (place - 1) order) in
    let same : get_or order k 0 ≡ number_at order place =
    sym (get_or-take (place - 1) order k 0 earlier)
    ∙ (get_or_default (take (place - 1) order) k 0 (number_at order place) found.1 ∙ found.2) in
    sound.different k (place - 1) 0 earlier (omega (arith, length-take m order))
    (get_or-take m order k 0 (omega arith) ∙ (same ∙ sym (get_or-take m order (place - 1) 0 (omega arith))))

out_of_range_fault : (n : ℕ) (order : List ℕ) (place : ℕ) → IsOutOfRangeAt n order place → IsFaultAt n order place
out_of_range_fault n order place at = record {
  some = at.from_one;
  sound_before = at.sound_before;
  breaks = λ m within sound. at.no_candidate (candidate_at n order m place sound at.from_one within at.inside);
}

twice_fault : (n : ℕ) (order : List ℕ) (place : ℕ) → IsTwiceAt n order place → IsFaultAt n order place
twice_fault n order place at = record {
  some = at.from_one;
  sound_before = at.sound_before;
  breaks = λ m within sound. no_repeat n order m place sound at.from_one within at.inside at.stood_before;
}

-- there is one such place
same_place : (n : ℕ) (order : List ℕ) (a b : ℕ) → IsFaultAt n order a → IsFaultAt n order b → a ≡ b
same_place n order a b one other =
    elim (cases_order a b) [
      | inl same ↦ same
      | inr (inl less) ↦ absurd (one.breaks (b - 1) (omega arith) other.sound_before)
      | inr (inr more) ↦ absurd (other.breaks (a - 1) (omega arith) one.sound_before)
    ]

-- who is at one place isn't out of range and there before
not_both : (n : ℕ) (order : List ℕ) (a b : ℕ) → IsOutOfRangeAt n order a → IsTwiceAt n order b → ⊥
not_both n order a b out twice =
    let same : a ≡ b = same_place n order a b (out_of_range_fault n order a out) (twice_fault n order b twice) in
    let found = twice.stood_before in
    let number = number_at order b in
    let candidate : (1 ≤ number) × (number ≤ n) =
    subst (λ (c : ℕ). (1 ≤ c) × (c ≤ n)) found.2 (twice.sound_before.numbers found.0 number found.1) in
    out.no_candidate (subst (λ (p : ℕ). (1 ≤ number_at order p) × (number_at order p ≤ n)) (sym same) candidate)

-- a whole order of n candidates is one of lots
lots_of_order : (n : ℕ) (order : List ℕ) → IsOrder order → length order ≡ n → AreLots n order
lots_of_order n order is all = record {
  numbers = λ k d inside. (
      let number = is.candidates k inside in
      let at : get_or order k d ≡ get_or order k 0 = get_or_default order k d 0 inside in
      (omega arith, omega arith)
      );
  different = λ i j d less inside same. (
      let here : get_or order i 0 ≡ get_or order i d = get_or_default order i 0 d (omega arith) in
      let there : get_or order j d ≡ get_or order j 0 = get_or_default order j d 0 inside in
      let equal : i ≡ j = is.different i j (omega arith) inside (here ∙ (same ∙ there)) in
      omega arith
      );
}

same_missing : (n : ℕ) (order : List ℕ) (c d : ℕ) → IsFirstMissing n order c → IsFirstMissing n order d → c ≡ d
same_missing n order c d one other =
    elim (cases_order c d) [
      | inl same ↦ same
      | inr (inl less) ↦ absurd (one.missing (other.lesser c one.candidate.0 less))
      | inr (inr more) ↦ absurd (other.missing (one.lesser d other.candidate.0 more))
    ]

-- whom an order of all candidates doesn't miss
none_missing : (n : ℕ) (order : List ℕ) (c : ℕ) → IsFirstMissing n order c → IsOrder order → length order ≡ n → ⊥
none_missing n order c missing is all = missing.missing (is.whole c missing.candidate.0 (omega (arith, missing.candidate)))

-- no place of lots is at fault
no_fault : (n : ℕ) (order : List ℕ) (place : ℕ) → IsFaultAt n order place → place ≤ length order → ¬ (AreLots n order)
no_fault n order place fault inside sound = fault.breaks (length order) inside (whole n order sound)

pub one_refusal :
    (n : ℕ) (order : List ℕ) (one other : LotsStop) → IsLotsStop n order one → IsLotsStop n order other
    → one ≡ other
one_refusal n order (NotAll c) (NotAll d) a b = ap NotAll (same_missing n order c d a b)
one_refusal n order (NotAll c) (Twice p) a b = absurd (no_fault n order p (twice_fault n order p b) b.inside a.sound)
one_refusal n order (NotAll c) (OutOfRange p) a b =
    absurd (no_fault n order p (out_of_range_fault n order p b) b.inside a.sound)
one_refusal n order (NotAll c) NoMemory a b = absurd (none_missing n order c a b.0 b.1)
one_refusal n order (Twice p) (NotAll c) a b = absurd (no_fault n order p (twice_fault n order p a) a.inside b.sound)
one_refusal n order (Twice p) (Twice q) a b =
    ap Twice (same_place n order p q (twice_fault n order p a) (twice_fault n order q b))
one_refusal n order (Twice p) (OutOfRange q) a b = absurd (not_both n order q p b a)
one_refusal n order (Twice p) NoMemory a b =
    absurd (no_fault n order p (twice_fault n order p a) a.inside (lots_of_order n order b.0 b.1))
one_refusal n order (OutOfRange p) (NotAll c) a b =
    absurd (no_fault n order p (out_of_range_fault n order p a) a.inside b.sound)
one_refusal n order (OutOfRange p) (Twice q) a b = absurd (not_both n order p q a b)
one_refusal n order (OutOfRange p) (OutOfRange q) a b =
    ap OutOfRange (same_place n order p q (out_of_range_fault n order p a) (out_of_range_fault n order q b))
one_refusal n order (OutOfRange p) NoMemory a b =
    absurd (no_fault n order p (out_of_range_fault n order p a) a.inside (lots_of_order n order b.0 b.1))
one_refusal n order NoMemory (NotAll c) a b = absurd (none_missing n order c b a.0 a.1)
one_refusal n order NoMemory (Twice p) a b =
    absurd (no_fault n order p (twice_fault n order p b) b.inside (lots_of_order n order a.0 a.1))
one_refusal n order NoMemory (OutOfRange p) a b =
    absurd (no_fault n order p (out_of_range_fault n order p b) b.inside (lots_of_order n order a.0 a.1))
one_refusal n order NoMemory NoMemory a b = refl
