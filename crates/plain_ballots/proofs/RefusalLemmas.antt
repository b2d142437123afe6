-- Ranks are refused for one reason at most.
use Rattle.std.proofs.Common.{◌≡◌, ℕ, ◌-◌, ◌<◌, ◌≤◌, List, length, get_or, take, Contains, arith, refl, ap}
use Rattle.std.proofs.Common.{sym, subst, ◌∙◌, inl, inr}
use Rattle.std.proofs.lemmas.List.{get_or-take, get_or_default, length-take, take_all}
use Rattle.std.proofs.lemmas.Bool.{cases_order}
use Rattle.plain_ballots.specs.declared.rank_stop.RankStop.{RankStop}
use Rattle.plain_ballots.specs.declared.rank_stop.RankStop.TheVariants.{OutOfRange, Repeated, NoMemory}
use Rattle.plain_ballots.specs.Ranking.{IsRanking, IsOutOfRangeAt, IsRepeatedAt, IsRankStop, before, rank_at}

-- The front before this place is a ranking, and no longer front is.
record IsFaultAt (n : ℕ) (ranks : List ℕ) (place : ℕ) : Type 0 where
  some : 1 ≤ place
  sound_before : IsRanking n (before ranks place)
  breaks : (m : ℕ) → place ≤ m → ¬ (IsRanking n (take m ranks))

-- who is at a place of a front that is a ranking is a candidate
candidate_at :
    (n : ℕ) (ranks : List ℕ) (m place : ℕ) → IsRanking n (take m ranks) → 1 ≤ place → place ≤ m
    → place ≤ length ranks → (1 ≤ rank_at ranks place) × (rank_at ranks place ≤ n)
candidate_at n ranks m place sound some within inside =
    subst (λ (c : ℕ). (1 ≤ c) × (c ≤ n)) (get_or-take m ranks (place - 1) 0 (omega arith))
    (sound.numbers (place - 1) 0 (omega (arith, length-take m ranks)))

-- and doesn't stand before it
no_repeat :
    (n : ℕ) (ranks : List ℕ) (m place : ℕ) → IsRanking n (take m ranks) → 1 ≤ place → place ≤ m
    → place ≤ length ranks → ¬ (Contains (before ranks place) (rank_at ranks place))
no_repeat n ranks m place sound some within inside found =
    let k : ℕ = found.0 in
    let earlier : k < place - 1 = omega (arith, found.1, length-take (place - 1) ranks) in
    let same : get_or ranks k 0 ≡ rank_at ranks place =
    sym (get_or-take (place - 1) ranks k 0 earlier)
    ∙ (get_or_default (take (place - 1) ranks) k 0 (rank_at ranks place) found.1 ∙ found.2) in
    sound.different k (place - 1) 0 earlier (omega (arith, length-take m ranks))
    (get_or-take m ranks k 0 (omega arith) ∙ (same ∙ sym (get_or-take m ranks (place - 1) 0 (omega arith))))

out_of_range_fault : (n : ℕ) (ranks : List ℕ) (place : ℕ) → IsOutOfRangeAt n ranks place → IsFaultAt n ranks place
out_of_range_fault n ranks place at = record {
  some = at.from_one;
  sound_before = at.sound_before;
  breaks = λ m within sound. at.no_candidate (candidate_at n ranks m place sound at.from_one within at.inside);
}

repeated_fault : (n : ℕ) (ranks : List ℕ) (place : ℕ) → IsRepeatedAt n ranks place → IsFaultAt n ranks place
repeated_fault n ranks place at = record {
  some = at.from_one;
  sound_before = at.sound_before;
  breaks = λ m within sound. no_repeat n ranks m place sound at.from_one within at.inside at.stood_before;
}

-- there is one such place
same_place : (n : ℕ) (ranks : List ℕ) (a b : ℕ) → IsFaultAt n ranks a → IsFaultAt n ranks b → a ≡ b
same_place n ranks a b one other =
    elim (cases_order a b) [
      | inl same ↦ same
      | inr (inl less) ↦ absurd (one.breaks (b - 1) (omega arith) other.sound_before)
      | inr (inr more) ↦ absurd (other.breaks (a - 1) (omega arith) one.sound_before)
    ]

-- who is at one place isn't out of range and there before
not_both : (n : ℕ) (ranks : List ℕ) (a b : ℕ) → IsOutOfRangeAt n ranks a → IsRepeatedAt n ranks b → ⊥
not_both n ranks a b out repeated =
    let same : a ≡ b = same_place n ranks a b (out_of_range_fault n ranks a out) (repeated_fault n ranks b repeated) in
    let found = repeated.stood_before in
    let number = rank_at ranks b in
    let candidate : (1 ≤ number) × (number ≤ n) =
    subst (λ (c : ℕ). (1 ≤ c) × (c ≤ n)) found.2 (repeated.sound_before.numbers found.0 number found.1) in
    out.no_candidate (subst (λ (p : ℕ). (1 ≤ rank_at ranks p) × (rank_at ranks p ≤ n)) (sym same) candidate)

-- no place of a ranking is at fault
no_fault : (n : ℕ) (ranks : List ℕ) (place : ℕ) → IsFaultAt n ranks place → place ≤ length ranks → ¬ (IsRanking n ranks)
no_fault n ranks place fault inside sound =
    fault.breaks (length ranks) inside (subst (IsRanking n) (sym (take_all (length ranks) ranks (omega arith))) sound)

pub one_refusal :
    (n : ℕ) (ranks : List ℕ) (one other : RankStop) → IsRankStop n ranks one → IsRankStop n ranks other
    → one ≡ other
one_refusal n ranks (OutOfRange p) (OutOfRange q) a b =
    ap OutOfRange (same_place n ranks p q (out_of_range_fault n ranks p a) (out_of_range_fault n ranks q b))
one_refusal n ranks (OutOfRange p) (Repeated q) a b = absurd (not_both n ranks p q a b)
one_refusal n ranks (OutOfRange p) NoMemory a b = absurd (no_fault n ranks p (out_of_range_fault n ranks p a) a.inside b)
one_refusal n ranks (Repeated p) (OutOfRange q) a b = absurd (not_both n ranks q p b a)
one_refusal n ranks (Repeated p) (Repeated q) a b =
    ap Repeated (same_place n ranks p q (repeated_fault n ranks p a) (repeated_fault n ranks q b))
one_refusal n ranks (Repeated p) NoMemory a b = absurd (no_fault n ranks p (repeated_fault n ranks p a) a.inside b)
one_refusal n ranks NoMemory (OutOfRange p) a b = absurd (no_fault n ranks p (out_of_range_fault n ranks p b) b.inside a)
one_refusal n ranks NoMemory (Repeated p) a b = absurd (no_fault n ranks p (repeated_fault n ranks p b) b.inside a)
one_refusal n ranks NoMemory NoMemory a b = refl
