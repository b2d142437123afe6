-- What stands of calls of a day file are rankings, and not too many.
use Rattle.std.proofs.Common.{ℕ, suc, ◌≤◌, ◌==◌, Bool, true, false, cond, List, [], ◌∷◌}
use Rattle.std.proofs.Common.{length, take}
use Rattle.std.proofs.Common.{arith, Option, replicate}
use Rattle.std.specs.Prelude.{◌<◌, All, slice_index_or}
use Rattle.std.specs.List.{flat_map, range_with_len}
use Rattle.std.proofs.lemmas.List.Elements.{All-nil, All-head, All-tail, All-append, All-replicate}
use Rattle.std.proofs.lemmas.List.Elements.{All-take}
use Rattle.plain_ballots.specs.declared.limits.TheConstants.{MOST_BALLOTS, MOST_CANDIDATES}
use Rattle.plain_ballots.specs.declared.ballot_line.BallotLine.{BallotLine}
use Rattle.plain_ballots.specs.Ballots.{plain}
use Rattle.plain_ballots.specs.Ranking.{IsRanking}
use Rattle.plain_ballots.proofs.PlainLemmas.{length-plain}
use Rattle.batch_core.specs.declared.limits.TheConstants.{LAST_NUMBER}
use Rattle.batch_core.specs.declared.batch.Batch.{Batch}
use Rattle.batch_core.specs.declared.call.Call.{Call}
use Rattle.batch_core.specs.declared.call.Call.TheVariants.{Change as Changes, Freeze, Strike}
use Rattle.batch_core.specs.declared.change.Change.{Change}
use Rattle.batch_core.specs.declared.change.Change.TheVariants.{Enter, Correct, Withdraw}
use Rattle.batch_core.specs.declared.entry.Entry.{Entry}
use Rattle.batch_core.specs.declared.reply.Reply.{Reply}
use Rattle.batch_core.specs.declared.reply.Reply.TheVariants as replies
use Rattle.batch_core.specs.Book.{BookState, empty, after, batch_of, ballots_of, change_reply, change_after}
use Rattle.batch_core.specs.Book.{ballot_lines, lines_of, standing, last_batch}
use Rattle.batch_core.specs.Histories.{after_all, standing_after}
use Rattle.batch_core.specs.Lawful.{MayStep}
use Rattle.batch_core.proofs.LawfulLemmas.{standing_total_after}
use Rattle.day_reader.specs.Call.{IsCall}

-- ---- lists

module _ {X Y : Type 0} (P : Y → Type 0) (f : X → List Y) where
  pub all_flat :
      (xs : List X) → ((k : ℕ) (d : X) → k < length xs → All P (f (slice_index_or xs k d))) → All P (flat_map f xs)
  all_flat [] each = All-nil P
  all_flat (x ∷ xs) each =
      All-append P (f x) (flat_map f xs) (each 0 x (omega arith))
      (all_flat xs (λ k d inside. each (suc k) d (omega (arith, inside))))

module _ (candidates : ℕ) where
  -- ---- batches

  abbrev AreRanked : List BallotLine → Type 0
  AreRanked lines = All (λ line. IsRanking candidates line.ranking) lines

  -- a change brings rankings
  brought : (change : Change) → IsCall candidates (Changes change) → AreRanked (ballot_lines (ballots_of change))
  brought (Enter batch all) is = is.1.lines.rankings
  brought (Correct batch revision all) is = is.2.lines.rankings
  brought (Withdraw batch revision) is = All-nil (λ (line : BallotLine). IsRanking candidates line.ranking)

  -- and leaves rankings, however it is answered
  left_by :
      (kept : Option Batch) (change : Change) (answer : Reply) → AreRanked (ballot_lines (ballots_of change))
      → AreRanked (lines_of kept) → AreRanked (lines_of (change_after kept change answer))
  left_by kept change replies.Entered new old = new
  left_by kept change (replies.Corrected revision) new old = new
  left_by kept change (replies.Withdrawn revision) new old =
      All-nil (λ (line : BallotLine). IsRanking candidates line.ranking)
  left_by kept change replies.Frozen new old = old
  left_by kept change (replies.Exists revision) new old = old
  left_by kept change replies.Unknown new old = old
  left_by kept change (replies.Gone revision) new old = old
  left_by kept change (replies.Stale revision) new old = old
  left_by kept change replies.Spent new old = old
  left_by kept change replies.Struck new old = old
  left_by kept change replies.AlreadyStruck new old = old

  abbrev Keeps : BookState → Type 0
  Keeps book = (number : ℕ) → AreRanked (lines_of (book.batches number))

  keeps_call : (book : BookState) (call : Call) → IsCall candidates call → Keeps book → Keeps (after book call)
  keeps_call book (Changes change) is keeps number = by (number == batch_of change)
    where
      kept : Option Batch
      kept = book.batches (batch_of change)

      by :
          (b : Bool)
          → AreRanked
          (lines_of (cond b (change_after kept change (change_reply kept change)) (book.batches number)))
      by true = left_by kept change (change_reply kept change) (brought change is) (keeps (batch_of change))
      by false = keeps number
  keeps_call book Freeze is keeps number = keeps number
  keeps_call book (Strike candidate) is keeps number = keeps number

  keeps_all :
      (book : BookState) (es : List Entry) → All (λ e. IsCall candidates e.call) es → Keeps book
      → Keeps (after_all book es)
  keeps_all book [] are keeps = keeps
  keeps_all book (e ∷ es) are keeps =
      let P = λ (f : Entry). IsCall candidates f.call in
      keeps_all (after book e.call) es (All-tail P e es are) (keeps_call book e.call (All-head P e es are) keeps)

  single : (lines : List BallotLine) → AreRanked lines → All (IsRanking candidates) (plain lines)
  single lines are =
      all_flat (IsRanking candidates) (λ (line : BallotLine). replicate line.count line.ranking) lines
      (λ k d inside. All-replicate (IsRanking candidates) _ _ (are k d inside))

  -- the single ballots of what stands
  pub rankings :
      (history : List Entry) (n : ℕ) → All (λ e. IsCall candidates e.call) history
      → All (IsRanking candidates) (plain (standing_after history n))
  unfolding last_batch
  rankings history n are =
      let book = after_all empty (take n history) in
      let keeps =
      keeps_all empty (take n history) (All-take (λ (e : Entry). IsCall candidates e.call) n history are)
      (λ number. All-nil (λ (line : BallotLine). IsRanking candidates line.ranking)) in
      single (standing book)
      (all_flat (λ (line : BallotLine). IsRanking candidates line.ranking) (λ number. lines_of (book.batches number))
      (range_with_len 1 LAST_NUMBER) (λ k d inside. keeps (slice_index_or (range_with_len 1 LAST_NUMBER) k d)))

  -- ---- how many they are

  pub may_step : candidates ≤ MOST_CANDIDATES → (call : Call) → IsCall candidates call → MayStep candidates call
  may_step few (Changes (Enter batch all)) is = ((is.0.least, is.0.most), (is.1.candidates_are, is.1.lines.bounded))
  may_step few (Changes (Correct batch revision all)) is =
      ((is.0.least, is.0.most), (is.1.least, is.1.most), (is.2.candidates_are, is.2.lines.bounded))
  may_step few (Changes (Withdraw batch revision)) is = ((is.0.least, is.0.most), (is.1.least, is.1.most))
  may_step few Freeze is = tt
  may_step few (Strike candidate) is = (is.least, let most = is.most in omega (arith, most, few))

  pub not_too_many :
      (history : List Entry) (n : ℕ) → candidates ≤ MOST_CANDIDATES → All (λ e. IsCall candidates e.call) history
      → length (plain (standing_after history n)) ≤ MOST_BALLOTS
  not_too_many history n few are =
      let total =
      standing_total_after candidates history n
      (λ k d inside. may_step few _ (are k d inside)) in
      omega (arith, total, length-plain (standing_after history n))
