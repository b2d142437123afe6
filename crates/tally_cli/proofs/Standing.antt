-- What a change does to the first preferences of the ballots that stand, and to what is kept of each batch.
use Rattle.std.proofs.Common.{◌≡◌, ◌≢◌, ℕ, zero, suc, ◌+◌, ◌-◌, ◌<◌, ◌≤◌, ◌==◌, true, false, cond, List, []}
use Rattle.std.proofs.Common.{◌++◌, length, set, refl, sym, ap, ◌∙◌, subst, arith, ⊎_elim, eq-eqb, ne_eqb}
use Rattle.std.proofs.Common.{append-nil}
use Rattle.std.specs.List.{flat_map, range_with_len}
use Rattle.std.specs.List.Sorted.{IsPermutation}
use Rattle.std.proofs.lemmas.Bool.Decides.{eqb_tells}
use Rattle.std.proofs.lemmas.List.{get_or-set_same, get_or-set_other, length-set}
use Rattle.std.proofs.lemmas.List.Sorted.{sum_by-IsPermutation}
use Rattle.std.proofs.lemmas.List.Sums.{sum_by-append, count_by-le-length}
use Rattle.plain_ballots.specs.declared.ballot_line.BallotLine.{BallotLine}
use Rattle.plain_ballots.specs.Ballots.{BallotList, ballot_count, plain}
use Rattle.plain_ballots.proofs.PlainLemmas.{length-plain, plain-append, plain-IsPermutation}
use Rattle.batch_core.specs.declared.change.Change.{Change}
use Rattle.batch_core.specs.declared.change.Change.TheVariants.{Enter, Correct, Withdraw}
use Rattle.batch_core.specs.declared.call.Call.TheVariants.{Change as Changes}
use Rattle.batch_core.specs.declared.entry.Entry.{Entry}
use Rattle.batch_core.specs.Book.{BookState, empty, after, reply, batch_of, lines_of, standing, last_batch}
use Rattle.batch_core.specs.Book.{change_after, change_reply}
use Rattle.batch_core.specs.Histories.{after_all, standing_after}
use Rattle.batch_core.specs.Lawful.{IsInRange, IsLawful, AreLawful}
use Rattle.batch_core.specs.Laws.{OneBatchIsReplaced, FewEnoughToCount, StandsInTheBook}
use Rattle.tally_cli.specs.First.{begins_with, first}
use Rattle.tally_cli.specs.Shown.{kept_for, AreKept}

first-append : (xs ys : List BallotLine) (c : ℕ) → first (plain (xs ++ ys)) c ≡ first (plain xs) c + first (plain ys) c
first-append xs ys c =
    ap (λ (b : List (List ℕ)). first b c) (plain-append xs ys)
    ∙ sum_by-append (λ ranking. cond (begins_with c ranking) 1 0) (plain xs) (plain ys)

first-order : (xs ys : List BallotLine) (c : ℕ) → IsPermutation xs ys → first (plain ys) c ≡ first (plain xs) c
first-order xs ys c same =
    sum_by-IsPermutation (λ ranking. cond (begins_with c ranking) 1 0) (plain xs) (plain ys)
    (plain-IsPermutation xs ys same)

first-few : (lines : List BallotLine) (c : ℕ) → first (plain lines) c ≤ ballot_count lines
first-few lines c = omega (arith, count_by-le-length (begins_with c) (plain lines), length-plain lines)

-- what stands after a change and the old lines of its batch are what stood before it and the new lines
pub moved : OneBatchIsReplaced → (book : BookState) (change : Change) (c : ℕ) → IsInRange (batch_of change)
    → first (plain (standing (after book (Changes change)))) c + first (plain (lines_of (book.batches (batch_of change)))) c
    ≡ first (plain (standing book)) c + first (plain (lines_of ((after book (Changes change)).batches (batch_of change)))) c
moved law book change c range =
    let stand = standing (after book (Changes change)) in
    let old = lines_of (book.batches (batch_of change)) in
    let new = lines_of ((after book (Changes change)).batches (batch_of change)) in
    omega (
      arith,
      first-append stand old c,
      first-append (standing book) new c,
      first-order (stand ++ old) (standing book ++ new) c (law book change range),
    )

-- one piece has no more than all
one_of :
    (g : ℕ → List BallotLine) (c k n a : ℕ) → a ≤ k → k < a + n
    → first (plain (g k)) c ≤ first (plain (flat_map g (range_with_len a n))) c
one_of g c k zero a from below = absurd (omega arith)
one_of g c k (suc n) a from below =
    let rest = flat_map g (range_with_len (a + 1) n) in
    let both = first-append (g a) rest c in
    ⊎_elim
    (λ (h : ((a == k) ≡ true) × (a ≡ k)).
    subst (λ (b : ℕ). first (plain (g b)) c ≤ first (plain (g a ++ rest)) c) h.1 (omega (arith, both)))
    (λ (h : ((a == k) ≡ false) × (a ≢ k)).
    let ne = h.1 in
    let more = one_of g c k n (a + 1) (omega arith) (omega arith) in
    omega (arith, both, more))
    (eqb_tells a k)

numbered : (k : ℕ) → IsInRange k → k < 1 + last_batch
unfolding last_batch
numbered k range = omega (arith, range.1)

pub held :
    (book : BookState) (k c : ℕ) → IsInRange k
    → first (plain (lines_of (book.batches k))) c ≤ first (plain (standing book)) c
held book k c range = one_of (λ b. lines_of (book.batches b)) c k last_batch 1 range.0 (numbered k range)

-- after the last entry there stands what is in the book
pub last_is : StandsInTheBook → (es : List Entry) → standing_after es (length es) ≡ standing (after_all empty es)
last_is stands es =
    subst (λ (l : List Entry). standing_after l (length es) ≡ standing (after_all empty es)) (append-nil es) (stands es [])

pub few_stand :
    FewEnoughToCount → StandsInTheBook → (n c : ℕ) (es : List Entry) → AreLawful n es
    → first (plain (standing (after_all empty es))) c ≤ 999999999
few_stand few stands n c es lawful =
    let counted : ballot_count (standing (after_all empty es)) ≤ 999900000 =
    subst (λ (l : List BallotLine). ballot_count l ≤ 999900000) (last_is stands es)
    (few n es (length es) lawful) in
    omega (arith, first-few (standing (after_all empty es)) c, counted)

pub own_after :
    (book : BookState) (change : Change)
    → (after book (Changes change)).batches (batch_of change)
    ≡ change_after (book.batches (batch_of change)) change (reply book (Changes change))
own_after book change =
    let k = batch_of change in
    ap (λ t. cond t (change_after (book.batches k) change (change_reply (book.batches k) change))
    (book.batches k)) (eq-eqb k k refl)

other_after :
    (book : BookState) (change : Change) (b : ℕ) → b ≢ batch_of change
    → (after book (Changes change)).batches b ≡ book.batches b
other_after book change b other =
    let k = batch_of change in
    ap (λ t. cond t (change_after (book.batches k) change (change_reply (book.batches k) change))
    (book.batches b)) (ne_eqb b k other)

-- what is kept once the new ballots of a batch took the place of its old ones
pub kept_more :
    (n : ℕ) (book : BookState) (change : Change) (kept : List BallotList) (ballots : BallotList)
    → IsInRange (batch_of change) → AreKept n book kept
    → ballots.candidates ≡ n → lines_of ((after book (Changes change)).batches (batch_of change)) ≡ ballots.lines
    → AreKept n (after book (Changes change)) (set kept (batch_of change - 1) ballots)
kept_more n book change kept ballots range are of_candidates left =
    let k = batch_of change in
    let none : BallotList = record { candidates = n; lines = [] } in
    let new = set kept (k - 1) ballots in
    let below : k - 1 < length kept = omega (arith, are.all, range.0, range.1) in
    let at : kept_for n new k ≡ ballots = get_or-set_same kept (k - 1) ballots none below in
    let beside : (b : ℕ) → IsInRange b → b ≢ k → kept_for n new b ≡ kept_for n kept b =
    λ b within other. get_or-set_other kept (k - 1) (b - 1) ballots none
    (λ e. other (omega (arith, e, within.0, range.0))) in
    record {
      all = length-set kept (k - 1) ballots ∙ are.all;
      of_candidates = λ b within. ⊎_elim
          (λ (h : ((b == k) ≡ true) × (b ≡ k)). ap (λ (j : ℕ). (kept_for n new j).candidates) h.1
          ∙ (ap (λ (l : BallotList). l.candidates) at ∙ of_candidates))
          (λ (h : ((b == k) ≡ false) × (b ≢ k)). ap (λ (l : BallotList). l.candidates) (beside b within h.1)
          ∙ are.of_candidates b within)
          (eqb_tells b k);
      lines = λ b within. ⊎_elim
          (λ (h : ((b == k) ≡ true) × (b ≡ k)).
          ap (λ (j : ℕ). (kept_for n new j).lines) h.1
          ∙ (ap (λ (l : BallotList). l.lines) at
          ∙ (sym left ∙ ap (λ (j : ℕ). lines_of ((after book (Changes change)).batches j)) (sym h.1))))
          (λ (h : ((b == k) ≡ false) × (b ≢ k)).
          ap (λ (l : BallotList). l.lines) (beside b within h.1)
          ∙ (are.lines b within ∙ ap lines_of (sym (other_after book change b h.1))))
          (eqb_tells b k);
    }

-- what is kept after a change that leaves its batch as it was
pub kept_same : (n : ℕ) (book : BookState) (change : Change) (kept : List BallotList) → AreKept n book kept
    → (after book (Changes change)).batches (batch_of change) ≡ book.batches (batch_of change)
    → AreKept n (after book (Changes change)) kept
kept_same n book change kept are same = record {
  all = are.all;
  of_candidates = are.of_candidates;
  lines = λ b within. are.lines b within ∙ ap lines_of (sym (⊎_elim
      (λ (h : ((b == batch_of change) ≡ true) × (b ≡ batch_of change)).
      ap (λ (j : ℕ). (after book (Changes change)).batches j) h.1 ∙ (same ∙ ap (λ (j : ℕ). book.batches j) (sym h.1)))
      (λ (h : ((b == batch_of change) ≡ false) × (b ≢ batch_of change)). other_after book change b h.1)
      (eqb_tells b (batch_of change))));
}

pub in_range : (n : ℕ) (change : Change) → IsLawful n change → IsInRange (batch_of change)
in_range n (Enter batch ballots) lawful = lawful.0
in_range n (Correct batch revision ballots) lawful = lawful.0
in_range n (Withdraw batch revision) lawful = lawful.0
