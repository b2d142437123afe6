-- The replies of a legal history name revisions from 1 to 9,999 alone.
use Rattle.std.proofs.Common.{◌≡◌, ℕ, ◌+◌, ◌≤◌, ◌==◌, Bool, true, false, cond, not, List, [], ◌∷◌, ◌++◌, All}
use Rattle.std.proofs.Common.{refl, sym, subst, arith, Option, Some, None, is_none, unwrap_or}
use Rattle.std.proofs.lemmas.Bool.Decides.{nat_tests}
use Rattle.std.proofs.lemmas.List.Elements.{All-nil, All-cons, All-head, All-tail, All-push}
use Rattle.plain_ballots.specs.declared.limits.TheConstants.{MOST_CANDIDATES}
use Rattle.batch_core.specs.declared.batch.Batch.{Batch}
use Rattle.batch_core.specs.declared.call.Call.{Call}
use Rattle.batch_core.specs.declared.call.Call.TheVariants.{Change as Changes, Freeze, Strike}
use Rattle.batch_core.specs.declared.change.Change.{Change}
use Rattle.batch_core.specs.declared.change.Change.TheVariants.{Enter, Correct, Withdraw}
use Rattle.batch_core.specs.declared.entry.Entry.{Entry}
use Rattle.batch_core.specs.declared.reply.Reply.{Reply}
use Rattle.batch_core.specs.declared.reply.Reply.TheVariants.{Corrected, Withdrawn, Gone, Stale, Spent, Struck}
use Rattle.batch_core.specs.declared.reply.Reply.TheVariants.{AlreadyStruck}
use Rattle.batch_core.specs.Book.{BookState, empty, after, batch_of, change_reply, is_struck, reply}
use Rattle.batch_core.specs.Histories.{after_all, IsAnsweredBy}
use Rattle.batch_core.specs.Lawful.{IsInRange, AreLawful, AreKept, IsKept, MayStep}
use Rattle.batch_core.proofs.LawfulLemmas.{kept_all}
use Rattle.day_reader.specs.Call.{IsCall}
use Rattle.day_text.specs.Said.{IsSaidCall, IsSaidEntry, IsSaidReply}
use Rattle.day_text.specs.Without.{call_without, entry_without, without_ballots}
use Rattle.day_text.proofs.ScriptCalls.{IsAsked}
use Rattle.day_reader.proofs.CallRankings.{may_step}

-- ---- one reply

-- a change of an entered batch is refused, or carried out at a revision that isn't the last
by_tests :
    (batch : Batch) (answer : Reply) (gone stale last : Bool) → IsInRange batch.revision
    → (last ≡ false → IsSaidReply answer)
    → IsSaidReply (unwrap_or
    (cond gone (Some (Gone batch.revision)) (cond stale (Some (Stale batch.revision)) (cond last (Some Spent) None)))
    answer)
by_tests batch answer true stale last is done = is
by_tests batch answer false true last is done = is
by_tests batch answer false false true is done = tt
by_tests batch answer false false false is done = done refl

not_last : (r : ℕ) → r ≤ 9999 → (r == 9999) ≡ false → IsInRange (r + 1)
not_last r le ne = grind (arith, nat_tests)

said_change : (candidates number : ℕ) (kept : Option Batch) (change : Change) → IsKept candidates number kept
    → IsSaidReply (change_reply kept change)
said_change candidates number None (Enter batch ballots) kept = tt
said_change candidates number None (Correct batch revision ballots) kept = tt
said_change candidates number None (Withdraw batch revision) kept = tt
said_change candidates number (Some batch) (Enter other ballots) kept = kept.1
said_change candidates number (Some batch) (Correct other revision ballots) kept =
    by_tests batch (Corrected (batch.revision + 1)) (is_none batch.standing) (not (revision == batch.revision))
    (batch.revision == 9999) kept.1 (not_last batch.revision kept.1.1)
said_change candidates number (Some batch) (Withdraw other revision) kept =
    by_tests batch (Withdrawn (batch.revision + 1)) (is_none batch.standing) (not (revision == batch.revision))
    (batch.revision == 9999) kept.1 (not_last batch.revision kept.1.1)

said_strike : (already : Bool) → IsSaidReply (cond already AlreadyStruck Struck)
said_strike true = tt
said_strike false = tt

said_reply :
    (candidates : ℕ) (book : BookState) (call : Call) → AreKept candidates book.batches → IsSaidReply (reply book call)
said_reply candidates book (Changes change) kept =
    said_change candidates (batch_of change) (book.batches (batch_of change)) change (kept (batch_of change))
said_reply candidates book Freeze kept = tt
said_reply candidates book (Strike candidate) kept = said_strike (is_struck book.struck candidate)

-- ---- one call, without its ballots

said_call :
    (candidates : ℕ) (call : Call) → candidates ≤ MOST_CANDIDATES → IsCall candidates call
    → IsSaidCall (call_without call)
said_call candidates (Changes (Enter batch all)) few is = ((is.0.least, is.0.most), refl)
said_call candidates (Changes (Correct batch revision all)) few is =
    ((is.0.least, is.0.most), (is.1.least, is.1.most), refl)
said_call candidates (Changes (Withdraw batch revision)) few is = ((is.0.least, is.0.most), (is.1.least, is.1.most))
said_call candidates Freeze few is = tt
said_call candidates (Strike candidate) few is = (is.least, let most = is.most in omega (arith, most, few))

-- ---- a history

leads_on :
    (book : BookState) (before : List Entry) (e : Entry)
    → after_all book (before ++ e ∷ []) ≡ after (after_all book before) e.call
leads_on book [] e = refl
leads_on book (x ∷ before) e = leads_on (after book x.call) before e

module _ (candidates : ℕ) (few : candidates ≤ MOST_CANDIDATES) where
  abbrev IsAskedBy : Entry → Type 0
  IsAskedBy e = IsAsked candidates e.caller e.call

  -- the calls after others
  said_behind :
      (before history : List Entry) → AreLawful candidates before → All IsAskedBy history
      → IsAnsweredBy (after_all empty before) history → All IsSaidEntry (without_ballots history)
  said_behind before [] lawful asked answered = All-nil IsSaidEntry
  said_behind before (e ∷ history) lawful asked answered =
      let here = All-head IsAskedBy e history asked in
      let more =
      All-push (λ (x : Entry). MayStep candidates x.call) before e lawful (may_step candidates few e.call here.1) in
      let said = said_reply candidates (after_all empty before) e.call (kept_all candidates before lawful) in
      All-cons IsSaidEntry (entry_without e) (without_ballots history)
      (record {
        caller = here.0;
        call = said_call candidates e.call few here.1;
        reply = subst IsSaidReply (sym answered.0) said;
      })
      (said_behind (before ++ e ∷ []) history more (All-tail IsAskedBy e history asked)
      (subst (λ (book : BookState). IsAnsweredBy book history) (sym (leads_on empty before e)) answered.1))

  pub said_history :
      (history : List Entry) → All IsAskedBy history → IsAnsweredBy empty history → All IsSaidEntry (without_ballots history)
  said_history history asked answered =
      said_behind [] history (All-nil (λ (x : Entry). MayStep candidates x.call)) asked answered
