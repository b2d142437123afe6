-- An office that one caller after another calls.
use Rattle.std.specs.Prelude.{◌≡◌, ℕ, ◌≤◌, List, [], ◌∷◌, ◌++◌, All}
use Rattle.plain_ballots.specs.declared.limits.TheConstants.{MOST_CANDIDATES}
use Rattle.batch_core.specs.declared.call.Call.{Call}
use Rattle.batch_core.specs.declared.entry.Entry.{Entry}
use Rattle.batch_core.specs.Book.{BookList, empty, reply, state_of}
use Rattle.batch_core.specs.Histories.{after_all}
use Rattle.day_reader.specs.Said.{IsAnswerable}
use Rattle.day_replay.specs.Bare.{bare_book}

-- its candidates, and all answered calls
pub record ReplayState : Type 0 where
  pub candidates : ℕ
  pub history : List Entry

-- The plain book, but for its ballots, that these calls have led to, each of which an office of its candidates answers.
pub record IsReplay (book : BookList) (history : List Entry) : Type 0 where
  pub candidates : (1 ≤ book.candidates) × (book.candidates ≤ MOST_CANDIDATES)
  pub led : state_of book ≡ bare_book (after_all empty history)
  pub answerable : All (λ e. IsAnswerable book.candidates e.call) history

-- a call as the book answers it that these calls have led to
abbrev pub answered : List Entry → ℕ → Call → Entry
answered history caller asked = record { caller = caller; call = asked; reply = reply (after_all empty history) asked }

-- One call more was answered.
pub record IsLedOn (caller : ℕ) (asked : Call) (old new : ReplayState) : Type 0 where
  pub candidates : new.candidates ≡ old.candidates
  pub history : new.history ≡ old.history ++ answered old.history caller asked ∷ []
