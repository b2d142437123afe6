-- What lawful calls keep of a book, and how many ballots they leave.
use Rattle.std.proofs.Common.{◌≡◌, ◌≢◌, ℕ, zero, suc, ◌+◌, ◌*◌, ◌≤◌, ◌==◌, Bool, true, false, not, cond, List}
use Rattle.std.proofs.Common.{[], ◌∷◌, take, refl, sym, subst, ⊎_elim, arith, Option, Some, None, is_none}
use Rattle.std.proofs.Common.{unwrap_or}
use Rattle.std.specs.Prelude.{if◌then◌else◌}
use Rattle.std.specs.List.{flat_map, range_with_len}
use Rattle.std.proofs.lemmas.Bool.Decides.{eqb_tells, nat_tests}
use Rattle.std.proofs.lemmas.List.Elements.{All-head, All-tail, All-take}
use Rattle.std.proofs.lemmas.List.Sums.{sum_by-append}
use Rattle.plain_ballots.specs.declared.ballot_line.BallotLine.{BallotLine}
use Rattle.plain_ballots.specs.Ballots.{BallotList, ballot_count}
use Rattle.batch_core.specs.declared.batch.Batch.{Batch}
use Rattle.batch_core.specs.declared.call.Call.{Call}
use Rattle.batch_core.specs.declared.call.Call.TheVariants.{Change as Changes, Freeze, Strike}
use Rattle.batch_core.specs.declared.change.Change.{Change}
use Rattle.batch_core.specs.declared.change.Change.TheVariants.{Enter, Correct, Withdraw}
use Rattle.batch_core.specs.declared.entry.Entry.{Entry}
use Rattle.batch_core.specs.declared.reply.Reply.{Reply}
use Rattle.batch_core.specs.declared.reply.Reply.TheVariants.{Corrected, Withdrawn, Gone, Stale, Spent}
use Rattle.batch_core.specs.Book.{BookState, empty, after, batch_of, change_reply, change_after, ballot_lines}
use Rattle.batch_core.specs.Book.{lines_of, standing, last_batch}
use Rattle.batch_core.specs.Histories.{after_all, standing_after}
use Rattle.batch_core.specs.Lawful.{IsInRange, IsLawful, MayStep, AreLawful, AreOfBatch, IsKept, AreKept}

-- a change of an entered batch is refused, or carried out at a revision that isn't the last
by_tests :
    (candidates number : ℕ) (batch : Batch) (change : Change) (answer : Reply) (gone current last : Bool)
    → IsKept candidates number (Some batch)
    → (last ≡ false → IsKept candidates number (change_after (Some batch) change answer))
    → IsKept candidates number (change_after (Some batch) change (unwrap_or
    (if gone then Some (Gone batch.revision) else if not current then Some (Stale batch.revision)
    else if last then Some Spent else None) answer))
by_tests candidates number batch change answer true current last kept done = kept
by_tests candidates number batch change answer false false last kept done = kept
by_tests candidates number batch change answer false true true kept done = kept
by_tests candidates number batch change answer false true false kept done = done refl

not_last : (r : ℕ) → r ≤ 9999 → (r == 9999) ≡ false → IsInRange (r + 1)
not_last r le ne = grind (arith, nat_tests)

kept_change :
    (candidates : ℕ) (kept : Option Batch) (change : Change) → IsLawful candidates change
    → IsKept candidates (batch_of change) kept
    → IsKept candidates (batch_of change) (change_after kept change (change_reply kept change))
kept_change candidates None (Enter number ballots) lawful kept = (lawful.0, (omega arith, omega arith), lawful.1)
kept_change candidates None (Correct number revision ballots) lawful kept = tt
kept_change candidates None (Withdraw number revision) lawful kept = tt
kept_change candidates (Some batch) (Enter number ballots) lawful kept = kept
kept_change candidates (Some batch) (Correct number revision ballots) lawful kept =
    by_tests candidates number batch (Correct number revision ballots) (Corrected (batch.revision + 1))
    (is_none batch.standing) (revision == batch.revision) (batch.revision == 9999) kept
    (λ ne. (lawful.0, not_last batch.revision kept.1.1 ne, lawful.2))
kept_change candidates (Some batch) (Withdraw number revision) lawful kept =
    by_tests candidates number batch (Withdraw number revision) (Withdrawn (batch.revision + 1))
    (is_none batch.standing) (revision == batch.revision) (batch.revision == 9999) kept
    (λ ne. (lawful.0, not_last batch.revision kept.1.1 ne, tt))

kept_call :
    (candidates : ℕ) (book : BookState) (call : Call) → MayStep candidates call
    → AreKept candidates book.batches → AreKept candidates (after book call).batches
kept_call candidates book (Changes change) lawful kept b =
    let k = batch_of change in
    let new = change_after (book.batches k) change (change_reply (book.batches k) change) in
    ⊎_elim
    (λ (h : ((b == k) ≡ true) × (b ≡ k)). subst (λ t. IsKept candidates b (cond t new (book.batches b)))
    (sym h.0) (subst (λ n. IsKept candidates n new) (sym h.1)
    (kept_change candidates (book.batches k) change lawful (kept k))))
    (λ (h : ((b == k) ≡ false) × (b ≢ k)). subst (λ t. IsKept candidates b (cond t new (book.batches b))) (sym h.0) (kept b))
    (eqb_tells b k)
kept_call candidates book Freeze lawful kept b = kept b
kept_call candidates book (Strike candidate) lawful kept b = kept b

kept_from :
    (candidates : ℕ) (book : BookState) (es : List Entry) → AreLawful candidates es
    → AreKept candidates book.batches → AreKept candidates (after_all book es).batches
kept_from candidates book [] lawful kept = kept
kept_from candidates book (e ∷ es) lawful kept =
    let P = λ (f : Entry). MayStep candidates f.call in
    kept_from candidates (after book e.call) es (All-tail P e es lawful)
    (kept_call candidates book e.call (All-head P e es lawful) kept)

pub kept_all :
    (candidates : ℕ) (history : List Entry) → AreLawful candidates history
    → AreKept candidates (after_all empty history).batches
kept_all candidates history lawful = kept_from candidates empty history lawful (λ b. tt)

few_ballots : (candidates : ℕ) (o : Option BallotList) → AreOfBatch candidates o → ballot_count (ballot_lines o) ≤ 100000
few_ballots candidates None fit = omega arith
few_ballots candidates (Some ballots) fit = fit.1

few_lines :
    (candidates number : ℕ) (kept : Option Batch) → IsKept candidates number kept
    → ballot_count (lines_of kept) ≤ 100000
few_lines candidates number None fit = omega arith
few_lines candidates number (Some batch) fit = few_ballots candidates batch.standing fit.2

few_pieces :
    (f : ℕ → List BallotLine) → ((b : ℕ) → ballot_count (f b) ≤ 100000) → (n a : ℕ)
    → ballot_count (flat_map f (range_with_len a n)) ≤ n * 100000
few_pieces f few zero a = omega arith
few_pieces f few (suc n) a =
    let here = few a in
    let more = few_pieces f few n (a + 1) in
    let both = sum_by-append (λ (line : BallotLine). line.count) (f a) (flat_map f (range_with_len (a + 1) n)) in
    omega arith

-- the standing ballots together
pub standing_total :
    (candidates : ℕ) (book : BookState) → AreKept candidates book.batches
    → ballot_count (standing book) ≤ 999900000
unfolding last_batch
standing_total candidates book kept =
    few_pieces (λ b. lines_of (book.batches b)) (λ b. few_lines candidates b (book.batches b) (kept b)) 9999 1

pub standing_total_after :
    (candidates : ℕ) (history : List Entry) (n : ℕ) → AreLawful candidates history
    → ballot_count (standing_after history n) ≤ 999900000
standing_total_after candidates history n lawful =
    standing_total candidates (after_all empty (take n history)) (kept_all candidates (take n history)
    (All-take (λ (e : Entry). MayStep candidates e.call) n history lawful))
