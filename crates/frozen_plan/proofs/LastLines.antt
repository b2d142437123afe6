-- Lines that are dealt from the last to the first.
use Rattle.std.proofs.Common.{◌≡◌, ◌≢◌, ℕ, ◌+◌, ◌%◌, ◌≤◌, ◌<◌, ◌==◌, List, [], ◌∷◌, ◌++◌, length, get_or, set}
use Rattle.std.proofs.Common.{true, false, ⊎_elim, mod-lt, replicate, arith, ap, sym, ◌∙◌, subst}
use Rattle.std.proofs.Common.{append_assoc}
use Rattle.std.specs.List.Sorted.{IsPermutation}
use Rattle.std.proofs.lemmas.Bool.Decides.{eqb_tells}
use Rattle.std.proofs.lemmas.List.Sorted.{IsPermutation-append_comm}
use Rattle.std.proofs.lemmas.List.{length-set, get_or-set_same, get_or-set_other, length-append}
use Rattle.std.proofs.lemmas.List.Sums.{sum_by-cons, sum_by-append}
use Rattle.plain_ballots.specs.declared.ballot_line.BallotLine.{BallotLine}
use Rattle.plain_ballots.specs.Ballots.{BallotList, ballot_count, plain}
use Rattle.frozen_plan.specs.Dealing.{dealt, share}
use Rattle.frozen_plan.specs.Dealt.{StandsFor, IsDealt, AreDealt}
use Rattle.frozen_plan.proofs.DealingLemmas.{dealt_elsewhere}
use Rattle.frozen_plan.proofs.ShareLemmas.{stands_longer, own_line, share_counted}

-- a share takes in the ballots of a line
pub record TakesLine (line : BallotLine) (old new : BallotList) : Type 0 where
  pub candidates : new.candidates ≡ old.candidates
  pub ballots : IsPermutation (plain new.lines) (plain old.lines ++ replicate line.count line.ranking)

-- the line before the others is dealt to this share
dealt_before : (candidates n s i : ℕ) (behind : List BallotLine) (line : BallotLine) (old new : BallotList)
    → i % n ≡ s → TakesLine line old new
    → IsDealt candidates n (s + 1) (i + 1) behind old → IsDealt candidates n (s + 1) i (line ∷ behind) new
dealt_before candidates n s i behind line old new mine takes before =
    let so_far = share n (s + 1) (i + 1) behind in
    let equal = replicate line.count line.ranking in
    stands_longer candidates so_far (dealt n (s + 1) i line ++ so_far) line old new takes.candidates takes.ballots
    (subst (λ (l : List (List ℕ)). IsPermutation (so_far ++ equal) (l ++ so_far))
    (sym (own_line n s i line mine)) (IsPermutation-append_comm so_far equal)) before

-- or to another
not_dealt_before :
    (candidates n s i : ℕ) (behind : List BallotLine) (line : BallotLine) (old : BallotList) → i % n ≢ s
    → IsDealt candidates n (s + 1) (i + 1) behind old → IsDealt candidates n (s + 1) i (line ∷ behind) old
not_dealt_before candidates n s i behind line old other before =
    let so_far = share n (s + 1) (i + 1) behind in
    let none = dealt_elsewhere n i line (s + 1) (λ e. other (omega arith)) in
    subst (λ (l : List (List ℕ)). StandsFor candidates (l ++ so_far) old) (sym none) before

-- one more line is dealt
dealt_turn :
    (candidates i m k : ℕ) (behind : List BallotLine) (line : BallotLine) (shares : List BallotList)
    (d new : BallotList) → 1 ≤ m → length shares ≡ m → k ≡ i % m → TakesLine line (get_or shares k d) new
    → AreDealt candidates (i + 1) behind shares → AreDealt candidates i (line ∷ behind) (set shares k new)
dealt_turn candidates i m k behind line shares d new some as_many turn takes before s e within =
    let here : k < m = omega (arith, turn, mod-lt i {m = m} (omega (arith, some))) in
    let short : s < length shares = omega (arith, within, length-set shares k new) in
    let old : IsDealt candidates m (k + 1) (i + 1) behind (get_or shares k d) =
    subst (λ (t : ℕ). IsDealt candidates t (k + 1) (i + 1) behind (get_or shares k d)) as_many
    (before k d (omega (arith, here, as_many))) in
    subst (λ (t : ℕ). IsDealt candidates t (s + 1) i (line ∷ behind) (get_or (set shares k new) s e))
    (sym (length-set shares k new ∙ as_many))
    (⊎_elim
    (λ (same : ((s == k) ≡ true) × (s ≡ k)).
    subst (λ (t : ℕ). IsDealt candidates m (t + 1) i (line ∷ behind) (get_or (set shares k new) t e)) (sym same.1)
    (subst (IsDealt candidates m (k + 1) i (line ∷ behind))
    (sym (get_or-set_same shares k new e (omega (arith, here, as_many))))
    (dealt_before candidates m k i behind line (get_or shares k d) new (sym turn) takes old)))
    (λ (other : ((s == k) ≡ false) × (s ≢ k)).
    let kept : IsDealt candidates m (s + 1) (i + 1) behind (get_or shares s e) =
    subst (λ (t : ℕ). IsDealt candidates t (s + 1) (i + 1) behind (get_or shares s e)) as_many
    (before s e short) in
    subst (IsDealt candidates m (s + 1) i (line ∷ behind)) (sym (get_or-set_other shares k s new e other.1))
    (not_dealt_before candidates m s i behind line (get_or shares s e) (λ same. other.1 (sym same ∙ sym turn)) kept))
    (eqb_tells s k))

-- lines are dealt from the last on: those after the ones that are left are in their shares, and the turn is
-- that of the first of them
pub record IsDealing (n : ℕ) (lines : List BallotLine) (m : ℕ) (left : BallotList) (shares : List BallotList)
    (at : ℕ) : Type 0 where
  pub behind : List BallotLine
  pub all : lines ≡ left.lines ++ behind
  pub candidates : left.candidates ≡ n
  pub dealt : AreDealt n (length left.lines) behind shares
  pub as_many : length shares ≡ m
  pub turn : at ≡ length left.lines % m

-- the last of the lines that are left, and whose turn it is
module _ (candidates : ℕ) (all : List BallotLine) (m : ℕ) (old new : BallotList) (line : BallotLine)
    (shares : List BallotList) (before turn : ℕ) (was : IsDealing candidates all m old shares before)
    (last : old ≡ record new { lines = new.lines ++ line ∷ [] }) (many : 1 ≤ m)
    (earlier : (place : ℕ) → (place + 1) % m ≡ before → turn ≡ place % m) where
  lines : old.lines ≡ new.lines ++ line ∷ []
  lines = ap (λ (b : BallotList). b.lines) last

  size : length old.lines ≡ length new.lines + 1
  size = ap length lines ∙ length-append new.lines (line ∷ [])

  mine : turn ≡ length new.lines % m
  mine = earlier (length new.lines) (ap (λ (k : ℕ). k % m) (sym size) ∙ sym was.turn)

  turn_inside : turn < length shares
  turn_inside = omega (arith, mine, was.as_many, mod-lt (length new.lines) {m = m} (omega (arith, many)))

  dealt_later : AreDealt candidates (length new.lines + 1) was.behind shares
  dealt_later = subst (λ (k : ℕ). AreDealt candidates k was.behind shares) size was.dealt

  -- the share has room for the line
  pub turn_room :
      (d : BallotList) → ((ls : List BallotLine) → length (plain ls) ≡ ballot_count ls) → ballot_count all ≤ 999999999
      → ballot_count (get_or shares turn d).lines + line.count ≤ 999999999
  turn_room d count few =
      let counts : BallotLine → ℕ = λ l. l.count in
      omega (
        arith,
        share_counted candidates (length shares) (turn + 1) (length new.lines + 1) was.behind
            (get_or shares turn d) count (dealt_later turn d turn_inside),
        ap ballot_count was.all,
        ap ballot_count lines,
        sum_by-append counts old.lines was.behind,
        sum_by-append counts new.lines (line ∷ []),
        sum_by-cons counts line [],
        few,
      )

  pub one_less :
      (d own : BallotList) → TakesLine line (get_or shares turn d) own
      → IsDealing candidates all m new (set shares turn own) turn
  one_less d own takes = record {
    behind = line ∷ was.behind;
    all = was.all ∙ (ap (λ (l : List BallotLine). l ++ was.behind) lines ∙ append_assoc new.lines (line ∷ []) was.behind);
    candidates = sym (ap (λ (b : BallotList). b.candidates) last) ∙ was.candidates;
    dealt = dealt_turn candidates (length new.lines) m turn was.behind line shares d own many was.as_many mine takes
        dealt_later;
    as_many = length-set shares turn own ∙ was.as_many;
    turn = mine;
  }
