-- What the definitions of books and histories amount to.
use Rattle.std.specs.Prelude.{◌≡◌, ◌≢◌, ℕ, ◌≤◌, List, [], ◌∷◌, ◌++◌, length, take, AllPairs, IsPermutation}
use Rattle.batch_core.specs.declared.limits.TheConstants.{MOST_STANDING}
use Rattle.std.specs.List.{list_any}
use Rattle.plain_ballots.specs.Ballots.{ballot_count}
use Rattle.batch_core.specs.declared.change.Change.{Change}
use Rattle.batch_core.specs.declared.call.Call.TheVariants.{Change as Changes}
use Rattle.batch_core.specs.declared.entry.Entry.{Entry}
use Rattle.batch_core.specs.Book.{BookState, empty, batch_of, reply, after, is_struck, lines_of, standing}
use Rattle.batch_core.specs.Lawful.{IsInRange, AreLawful, AreKept}
use Rattle.batch_core.specs.Histories.{after_all, IsLegal, standing_after, struck_after, own_calls, strikes}

-- a legal history stays legal by one more call that is answered as the book answers it
abbrev pub GrowsByAnAnswer : Type 0
GrowsByAnAnswer =
    (history : List Entry) (e : Entry) → IsLegal history → e.reply ≡ reply (after_all empty history) e.call
    → IsLegal (history ++ e ∷ [])

-- each call of a legal history has the reply of the book that the calls before it have led to
abbrev pub AnswersEachCall : Type 0
AnswersEachCall =
    (history more : List Entry) (e : Entry) → IsLegal (history ++ e ∷ more)
    → e.reply ≡ reply (after_all empty history) e.call

-- the book after one more call is the book before it after this call
abbrev pub LeadsOn : Type 0
LeadsOn =
    (history : List Entry) (e : Entry) → after_all empty (history ++ e ∷ []) ≡ after (after_all empty history) e.call

-- what stands after the first calls of a history is what is in their book
abbrev pub StandsInTheBook : Type 0
StandsInTheBook =
    (history more : List Entry) → standing_after (history ++ more) (length history) ≡ standing (after_all empty history)

-- who is struck after the first calls of a history is who is struck in their book
abbrev pub StruckInTheBook : Type 0
StruckInTheBook =
    (history more : List Entry) → struck_after (history ++ more) (length history) ≡ (after_all empty history).struck

-- a caller's calls in two histories one after the other are those in the first and then those in the second
abbrev pub OwnCallsFollow : Type 0
OwnCallsFollow =
    (caller : ℕ) (history more : List Entry)
    → own_calls caller (history ++ more) ≡ own_calls caller history ++ own_calls caller more

-- who is struck by the first n calls is struck by one of them
abbrev pub StruckByACall : Type 0
StruckByACall =
    (history : List Entry) (n candidate : ℕ)
    → is_struck (struck_after history n) candidate ≡ list_any (λ e. strikes candidate e.call) (take n history)

-- nobody is listed twice as struck
abbrev pub StruckOnce : Type 0
StruckOnce = (history : List Entry) (n : ℕ) → AllPairs (λ a b. a ≢ b) (struck_after history n)

-- after lawful calls no batch has a number beyond the last or from before the first
abbrev pub EveryBatchIsNumbered : Type 0
EveryBatchIsNumbered =
    (candidates : ℕ) (history : List Entry) → AreLawful candidates history
    → AreKept candidates (after_all empty history).batches

-- after lawful calls at most 999,900,000 ballots stand: 9,999 batches of 100,000
abbrev pub FewEnoughToCount : Type 0
FewEnoughToCount =
    (candidates : ℕ) (history : List Entry) (n : ℕ) → AreLawful candidates history
    → ballot_count (standing_after history n) ≤ MOST_STANDING

-- a change takes the lines of its batch out of what stands, and puts in those that the batch has afterwards
abbrev pub OneBatchIsReplaced : Type 0
OneBatchIsReplaced =
    (book : BookState) (change : Change) → IsInRange (batch_of change)
    → IsPermutation (standing (after book (Changes change)) ++ lines_of (book.batches (batch_of change)))
    (standing book ++ lines_of ((after book (Changes change)).batches (batch_of change)))
