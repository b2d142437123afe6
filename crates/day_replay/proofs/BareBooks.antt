-- A book without ballots has the replies of the book with them.
use Rattle.std.proofs.Common.{◌≡◌, ℕ, ◌+◌, ◌==◌, ◌≤◌, Bool, true, false, not, cond, refl, ap, ◌∙◌, arith}
use Rattle.std.proofs.Common.{Option, Some, None, is_none, unwrap_or}
use Rattle.std.specs.Prelude.{if◌then◌else◌, option_map}
use Rattle.plain_ballots.specs.declared.limits.TheConstants.{MOST_CANDIDATES}
use Rattle.plain_ballots.specs.Ballots.{BallotList}
use Rattle.batch_core.specs.declared.limits.TheConstants.{LAST_NUMBER}
use Rattle.batch_core.specs.declared.batch.Batch.{Batch}
use Rattle.batch_core.specs.declared.change.Change.{Change}
use Rattle.batch_core.specs.declared.change.Change.TheVariants.{Enter, Correct, Withdraw}
use Rattle.batch_core.specs.declared.call.Call.{Call}
use Rattle.batch_core.specs.declared.call.Call.TheVariants.{Change as Changes, Freeze, Strike}
use Rattle.batch_core.specs.declared.reply.Reply.{Reply}
use Rattle.batch_core.specs.declared.reply.Reply.TheVariants.{Entered, Corrected, Withdrawn, Frozen, Exists, Unknown, Gone, Stale, Spent, Struck, AlreadyStruck}
use Rattle.batch_core.specs.Book.{BookState, after, ballots_of, change_after, change_reply, refusal, reply}
use Rattle.batch_core.specs.Lawful.{MayStep}
use Rattle.day_reader.specs.Said.{IsAnswerable}
use Rattle.day_replay.specs.Bare.{bare_ballots, bare_change, bare_call, bare_batch, bare_book}

abbrev bare : Option Batch → Option Batch
bare kept = option_map bare_batch kept

gone_alike : (o : Option BallotList) → is_none (option_map bare_ballots o) ≡ is_none o
gone_alike None = refl
gone_alike (Some ballots) = refl

refusal_alike : (batch : Batch) (revision : ℕ) → refusal (bare_batch batch) revision ≡ refusal batch revision
refusal_alike batch revision =
    ap (λ (gone : Bool). if gone then Some (Gone batch.revision)
    else if not (revision == batch.revision) then Some (Stale batch.revision)
    else if batch.revision == LAST_NUMBER then Some Spent
    else None) (gone_alike batch.standing)

reply_to : (kept : Option Batch) (change : Change) → change_reply (bare kept) (bare_change change) ≡ change_reply kept change
reply_to None (Enter number ballots) = refl
reply_to None (Correct number revision ballots) = refl
reply_to None (Withdraw number revision) = refl
reply_to (Some batch) (Enter number ballots) = refl
reply_to (Some batch) (Correct number revision ballots) =
    ap (λ (o : Option Reply). unwrap_or o (Corrected (batch.revision + 1))) (refusal_alike batch revision)
reply_to (Some batch) (Withdraw number revision) =
    ap (λ (o : Option Reply). unwrap_or o (Withdrawn (batch.revision + 1))) (refusal_alike batch revision)

brought_by : (change : Change) → ballots_of (bare_change change) ≡ option_map bare_ballots (ballots_of change)
brought_by (Enter number ballots) = refl
brought_by (Correct number revision ballots) = refl
brought_by (Withdraw number revision) = refl

abbrev batch_with : ℕ → Option BallotList → Option Batch
batch_with revision standing = Some (record { revision = revision; standing = standing })

kept_after :
    (kept : Option Batch) (change : Change) (answer : Reply)
    → change_after (bare kept) (bare_change change) answer ≡ bare (change_after kept change answer)
kept_after kept change Entered = ap (batch_with 1) (brought_by change)
kept_after kept change (Corrected revision) = ap (batch_with revision) (brought_by change)
kept_after kept change (Withdrawn revision) = refl
kept_after kept change Frozen = refl
kept_after kept change (Exists revision) = refl
kept_after kept change Unknown = refl
kept_after kept change (Gone revision) = refl
kept_after kept change (Stale revision) = refl
kept_after kept change Spent = refl
kept_after kept change Struck = refl
kept_after kept change AlreadyStruck = refl

one_of : (t : Bool) (x y : Option Batch) → cond t (bare x) (bare y) ≡ bare (cond t x y)
one_of true x y = refl
one_of false x y = refl

-- what is kept of each batch after a change of one
changed_at :
    (batches : ℕ → Option Batch) (change : Change) (n b : ℕ)
    → cond (b == n)
    (change_after (bare (batches n)) (bare_change change) (change_reply (bare (batches n)) (bare_change change)))
    (bare (batches b))
    ≡ bare (cond (b == n) (change_after (batches n) change (change_reply (batches n) change)) (batches b))
changed_at batches change n b =
    let kept = batches n in
    ap (λ (o : Option Batch). cond (b == n) o (bare (batches b)))
    (ap (change_after (bare kept) (bare_change change)) (reply_to kept change)
    ∙ kept_after kept change (change_reply kept change))
    ∙ one_of (b == n) (change_after kept change (change_reply kept change)) (batches b)

pub reply_alike : (book : BookState) (call : Call) → reply (bare_book book) (bare_call call) ≡ reply book call
reply_alike book (Changes (Enter n ballots)) = reply_to (book.batches n) (Enter n ballots)
reply_alike book (Changes (Correct n revision ballots)) = reply_to (book.batches n) (Correct n revision ballots)
reply_alike book (Changes (Withdraw n revision)) = reply_to (book.batches n) (Withdraw n revision)
reply_alike book Freeze = refl
reply_alike book (Strike candidate) = refl

pub after_alike : (book : BookState) (call : Call) → after (bare_book book) (bare_call call) ≡ bare_book (after book call)
after_alike book (Changes (Enter n ballots)) =
    λ i. record { batches = λ b. changed_at book.batches (Enter n ballots) n b i; struck = book.struck }
after_alike book (Changes (Correct n revision ballots)) =
    λ i. record { batches = λ b. changed_at book.batches (Correct n revision ballots) n b i; struck = book.struck }
after_alike book (Changes (Withdraw n revision)) =
    λ i. record { batches = λ b. changed_at book.batches (Withdraw n revision) n b i; struck = book.struck }
after_alike book Freeze = refl
after_alike book (Strike candidate) = refl

-- a book takes a call without its ballots where it takes it with them
pub bare_may_step : (n : ℕ) (asked : Call) → n ≤ MOST_CANDIDATES → IsAnswerable n asked → MayStep n (bare_call asked)
bare_may_step n (Changes (Enter batch ballots)) most (number, of) = (number, (of.0, omega arith))
bare_may_step n (Changes (Correct batch revision ballots)) most (number, current, of) = (number, current, (of.0, omega arith))
bare_may_step n (Changes (Withdraw batch revision)) most is = is
bare_may_step n Freeze most is = tt
bare_may_step n (Strike c) most is = (is.0, omega (arith, is.1, most))
