-- The ballots that stand before and after a change.
use Rattle.std.proofs.Common.{◌≡◌, ◌≢◌, ℕ, zero, suc, ◌+◌, ◌≤◌, ◌==◌, Bool, true, false, cond, List, [], ◌++◌}
use Rattle.std.proofs.Common.{length, refl, sym, ap, ◌∙◌, subst, ⊎_elim, arith, Option, Some, None, eq-eqb}
use Rattle.std.proofs.Common.{append-nil}
use Rattle.std.specs.Prelude.{is_none, not, unwrap_or}
use Rattle.std.specs.List.{flat_map, range_with_len}
use Rattle.std.specs.List.Sorted.{IsPermutation}
use Rattle.std.proofs.lemmas.Bool.Decides.{eqb_tells}
use Rattle.std.proofs.lemmas.List.Sorted.{IsPermutation-trans, IsPermutation-append_comm, sum_by-IsPermutation}
use Rattle.std.proofs.lemmas.List.Sums.{sum_by-append}
use Rattle.plain_ballots.specs.declared.ballot_line.BallotLine.{BallotLine}
use Rattle.plain_ballots.specs.Ballots.{ballot_count, plain}
use Rattle.batch_core.specs.declared.batch.Batch.{Batch}
use Rattle.batch_core.specs.declared.change.Change.{Change}
use Rattle.batch_core.specs.declared.change.Change.TheVariants.{Enter, Correct, Withdraw}
use Rattle.batch_core.specs.declared.call.Call.TheVariants.{Change as Changes}
use Rattle.batch_core.specs.declared.entry.Entry.{Entry}
use Rattle.batch_core.specs.declared.reply.Reply.{Reply}
use Rattle.batch_core.specs.declared.reply.Reply.TheVariants.{Corrected, Withdrawn, Gone, Stale, Spent}
use Rattle.batch_core.specs.Book.{BookState, empty, reply, after, batch_of, ballots_of, ballot_lines}
use Rattle.batch_core.specs.Book.{lines_of, standing, last_batch, replaced, change_reply, change_after}
use Rattle.batch_core.specs.Histories.{after_all}
use Rattle.batch_core.specs.Lawful.{IsInRange, IsLawful, AreLawful}
use Rattle.batch_core.specs.Laws.{OneBatchIsReplaced, FewEnoughToCount, StandsInTheBook}
use Rattle.ranking_trie.specs.BallotBag.{count_of, Holds}
use Rattle.ranking_trie.proofs.CountLemmas.{one_for, count_of-append}
use Rattle.shard_book.specs.Turnover.{is_done, taken_out, put_in}

-- what lists of lines stand for, joined and in another order
abbrev pub Joined : Type 0
Joined = (xs ys : List BallotLine) → plain (xs ++ ys) ≡ plain xs ++ plain ys

abbrev pub Reordered : Type 0
Reordered = (xs ys : List BallotLine) → IsPermutation xs ys → IsPermutation (plain xs) (plain ys)

none_from : (a n : ℕ) → flat_map (λ (number : ℕ). lines_of None) (range_with_len a n) ≡ []
none_from a zero = refl
none_from a (suc n) = none_from (a + 1) n

pub none_stand : standing empty ≡ []
none_stand = none_from 1 last_batch

-- the book without what it keeps of a batch
abbrev without : BookState → ℕ → BookState
without book k = record book { batches = replaced book.batches k None }

-- the change that enters the batch again
abbrev again : BookState → ℕ → Change
again book k = Enter k (record { candidates = 0; lines = lines_of (book.batches k) })

entered_again :
    (book : BookState) (k b : ℕ)
    → lines_of ((after (without book k) (Changes (again book k))).batches b) ≡ lines_of (book.batches b)
entered_again book k b =
    let own : (k == k) ≡ true = eq-eqb k k refl in
    let entered : Option Batch → Option Batch =
    λ kept. change_after kept (again book k) (change_reply kept (again book k)) in
    ⊎_elim
    (λ (h : ((b == k) ≡ true) × (b ≡ k)).
    (λ i. lines_of (cond (h.0 i) (entered (cond (own i) None (book.batches k))) (cond (b == k) None (book.batches b))))
    ∙ ap (λ (x : ℕ). lines_of (book.batches x)) (sym h.1))
    (λ (h : ((b == k) ≡ false) × (b ≢ k)).
    (λ i. lines_of (cond (h.0 i) (entered ((without book k).batches k)) (cond (h.0 i) None (book.batches b)))))
    (eqb_tells b k)

same_standing : (a b : BookState) → ((k : ℕ) → lines_of (a.batches k) ≡ lines_of (b.batches k)) → standing a ≡ standing b
same_standing a b same i = flat_map (λ k. same k i) (range_with_len 1 last_batch)

-- a batch's lines stand beside those of all others
parted :
    OneBatchIsReplaced → (book : BookState) (k : ℕ) → IsInRange k
    → IsPermutation (standing book) (lines_of (book.batches k) ++ standing (without book k))
parted law book k range =
    let bare : lines_of ((without book k).batches k) ≡ [] =
    ap (λ t. lines_of (cond t None (book.batches k))) (eq-eqb k k refl) in
    let whole : standing (after (without book k) (Changes (again book k))) ≡ standing book =
    same_standing (after (without book k) (Changes (again book k))) book (entered_again book k) in
    let front :
    standing (after (without book k) (Changes (again book k))) ++ lines_of ((without book k).batches k)
    ≡ standing book =
    (λ i. whole i ++ bare i) ∙ append-nil (standing book) in
    let both : IsPermutation (standing book) (standing (without book k) ++ lines_of (book.batches k)) =
    subst (λ (l : List BallotLine). IsPermutation l (standing (without book k) ++ lines_of (book.batches k))) front
    (subst (λ (l : List BallotLine). IsPermutation (standing (after (without book k) (Changes (again book k)))
    ++ lines_of ((without book k).batches k)) (standing (without book k) ++ l))
    (entered_again book k k)
    (law (without book k) (again book k) range)) in
    IsPermutation-trans (standing book) (standing (without book k) ++ lines_of (book.batches k))
    (lines_of (book.batches k) ++ standing (without book k)) both
    (IsPermutation-append_comm (standing (without book k)) (lines_of (book.batches k)))

-- so a trie of what stands has the batch's ballots
pub holds_batch :
    OneBatchIsReplaced → Joined → Reordered → (book : BookState) (k : ℕ) (ballots : List (List ℕ))
    → IsInRange k → IsPermutation ballots (plain (standing book))
    → Holds ballots (plain (lines_of (book.batches k)))
holds_batch law joined reordered book k ballots range are = record {
  others = plain (standing (without book k));
  are =
      IsPermutation-trans ballots (plain (standing book))
      (plain (lines_of (book.batches k)) ++ plain (standing (without book k))) are
      (subst (IsPermutation (plain (standing book))) (joined (lines_of (book.batches k)) (standing (without book k)))
      (reordered (standing book) (lines_of (book.batches k) ++ standing (without book k)) (parted law book k range)));
}

-- the lines of a batch after its change: the new ones, or else the old ones
abbrev LinesLeft : Option Batch → Change → Reply → Type 0
LinesLeft kept change answer =
    lines_of (change_after kept change answer)
    ≡ cond (is_done answer) (ballot_lines (ballots_of change)) (lines_of kept)

left_by : (batch : Batch) (change : Change) (answer : Reply) (gone other last : Bool) → LinesLeft (Some batch) change answer
    → LinesLeft (Some batch) change (unwrap_or (cond gone (Some (Gone batch.revision))
    (cond other (Some (Stale batch.revision)) (cond last (Some Spent) None))) answer)
left_by batch change answer true other last done = refl
left_by batch change answer false true last done = refl
left_by batch change answer false false true done = refl
left_by batch change answer false false false done = done

lines_left : (kept : Option Batch) (change : Change) → LinesLeft kept change (change_reply kept change)
lines_left None (Enter number ballots) = refl
lines_left None (Correct number revision ballots) = refl
lines_left None (Withdraw number revision) = refl
lines_left (Some batch) (Enter number ballots) = refl
lines_left (Some batch) (Correct number revision ballots) =
    left_by batch (Correct number revision ballots) (Corrected (batch.revision + 1)) (is_none batch.standing)
    (not (revision == batch.revision)) (batch.revision == 9999) refl
lines_left (Some batch) (Withdraw number revision) =
    left_by batch (Withdraw number revision) (Withdrawn (batch.revision + 1)) (is_none batch.standing)
    (not (revision == batch.revision)) (batch.revision == 9999) refl

-- the lines that a book has of a batch after its change
pub left_in : (book : BookState) (change : Change)
    → lines_of ((after book (Changes change)).batches (batch_of change))
    ≡ cond (is_done (reply book (Changes change))) (ballot_lines (ballots_of change))
    (lines_of (book.batches (batch_of change)))
left_in book change =
    let k = batch_of change in
    ap (λ t. lines_of (cond t (change_after (book.batches k) change (change_reply (book.batches k) change))
    (book.batches k))) (eq-eqb k k refl)
    ∙ lines_left (book.batches k) change

-- a measure of lists of lines that is added up when they are joined, and that their order leaves as it is
record IsMeasure (f : List BallotLine → ℕ) : Type 0 where
  pub none : f [] ≡ 0
  pub joined : (xs ys : List BallotLine) → f (xs ++ ys) ≡ f xs + f ys
  pub order : (xs ys : List BallotLine) → IsPermutation xs ys → f ys ≡ f xs

by_done :
    (f : List BallotLine → ℕ) → IsMeasure f → (done : Bool) (stand stood old new left : List BallotLine)
    → left ≡ cond done new old → f stand + f old ≡ f stood + f left
    → f stand + f (cond done old []) ≡ f stood + f (cond done new [])
by_done f measure true stand stood old new left is moved = let e = ap f is in omega arith
by_done f measure false stand stood old new left is moved = let e = ap f is in let none = measure.none in omega arith

-- what stands after a change and what it took out is what stood before it and what it put in
measured :
    OneBatchIsReplaced → (f : List BallotLine → ℕ) → IsMeasure f → (book : BookState) (change : Change)
    → IsInRange (batch_of change)
    → f (standing (after book (Changes change))) + f (taken_out book change) ≡ f (standing book) + f (put_in book change)
measured law f measure book change range =
    let k = batch_of change in
    let stand = standing (after book (Changes change)) in
    let old = lines_of (book.batches k) in
    let left = lines_of ((after book (Changes change)).batches k) in
    let moved : f stand + f old ≡ f (standing book) + f left =
    sym (measure.joined stand old)
    ∙ (sym (measure.order (stand ++ old) (standing book ++ left) (law book change range))
    ∙ measure.joined (standing book) left) in
    by_done f measure (is_done (reply book (Changes change))) stand (standing book) old
    (ballot_lines (ballots_of change)) left (left_in book change) moved

pub ballots_moved :
    OneBatchIsReplaced → Joined → Reordered → (book : BookState) (change : Change)
    → IsInRange (batch_of change) → (q : List ℕ)
    → count_of q (plain (standing (after book (Changes change)))) + count_of q (plain (taken_out book change))
    ≡ count_of q (plain (standing book)) + count_of q (plain (put_in book change))
ballots_moved law joined reordered book change range q = measured law (λ lines. count_of q (plain lines))
    (record {
      none = refl;
      joined = λ xs ys. ap (count_of q) (joined xs ys) ∙ count_of-append q (plain xs) (plain ys);
      order = λ xs ys same. sum_by-IsPermutation (one_for q) (plain xs) (plain ys) (reordered xs ys same);
    })
    book change range

counts_moved : OneBatchIsReplaced → (book : BookState) (change : Change) → IsInRange (batch_of change)
    → ballot_count (standing (after book (Changes change))) + ballot_count (taken_out book change)
    ≡ ballot_count (standing book) + ballot_count (put_in book change)
counts_moved law book change range = measured law ballot_count
    (record {
      none = refl;
      joined = λ xs ys. sum_by-append (λ line. line.count) xs ys;
      order = λ xs ys same. sum_by-IsPermutation (λ line. line.count) xs ys same;
    })
    book change range

-- few enough ballots stand after lawful entries
pub few_stand :
    FewEnoughToCount → StandsInTheBook → (candidates : ℕ) (es : List Entry) → AreLawful candidates es
    → ballot_count (standing (after_all empty es)) ≤ 999900000
few_stand few stands candidates es lawful =
    subst (λ (l : List BallotLine). ballot_count l ≤ 999900000) (stands es [])
    (few candidates (es ++ []) (length es) (subst (AreLawful candidates) (sym (append-nil es)) lawful))

-- so there is room in a trie for what a change puts in once its old ballots are out
pub few_moved :
    OneBatchIsReplaced → (book : BookState) (change : Change) (total : ℕ) → IsInRange (batch_of change)
    → total ≡ ballot_count (standing book) → ballot_count (standing (after book (Changes change))) ≤ 999900000
    → is_done (reply book (Changes change)) ≡ true
    → total + ballot_count (ballot_lines (ballots_of change))
    ≤ 999999999 + ballot_count (lines_of (book.batches (batch_of change)))
few_moved law book change total range is few done =
    let moved = counts_moved law book change range in
    let out :
    ballot_count (taken_out book change) ≡ ballot_count (lines_of (book.batches (batch_of change))) =
    ap (λ t. ballot_count (cond t (lines_of (book.batches (batch_of change))) [])) done in
    let into : ballot_count (put_in book change) ≡ ballot_count (ballot_lines (ballots_of change)) =
    ap (λ t. ballot_count (cond t (ballot_lines (ballots_of change)) [])) done in
    omega (arith, moved, out, into, is, few)

pub in_range : (candidates : ℕ) (change : Change) → IsLawful candidates change → IsInRange (batch_of change)
in_range candidates (Enter batch ballots) lawful = lawful.0
in_range candidates (Correct batch revision ballots) lawful = lawful.0
in_range candidates (Withdraw batch revision) lawful = lawful.0
