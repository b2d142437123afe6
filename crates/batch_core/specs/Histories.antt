-- Histories: lists of answered calls.
use Rattle.std.specs.Prelude.{◌≡◌, ℕ, ◌==◌, ⊤, Bool, false, List, [], ◌∷◌, filter, take}
use Rattle.plain_ballots.specs.declared.ballot_line.BallotLine.{BallotLine}
use Rattle.batch_core.specs.declared.call.Call.{Call}
use Rattle.batch_core.specs.declared.call.Call.TheVariants.{Change, Freeze, Strike}
use Rattle.batch_core.specs.declared.entry.Entry.{Entry}
use Rattle.batch_core.specs.Book.{BookState, empty, reply, after, standing}

-- the book after these calls
abbrev pub after_all : BookState → List Entry → BookState
after_all book [] = book
after_all book (e ∷ es) = after_all (after book e.call) es

-- each call is answered as the book answers it that the calls before it have led to
abbrev pub IsAnsweredBy : BookState → List Entry → Type 0
IsAnsweredBy book [] = ⊤
IsAnsweredBy book (e ∷ es) = (e.reply ≡ reply book e.call) × IsAnsweredBy (after book e.call) es

-- a legal history: each call is answered as the book answers it at its place, from the empty book on
abbrev pub IsLegal : List Entry → Type 0
IsLegal history = IsAnsweredBy empty history

-- the lines of all batches that stand after the first n calls, by rising batch number
abbrev pub standing_after : List Entry → ℕ → List BallotLine
standing_after history n = standing (after_all empty (take n history))

-- the candidates struck by the first n calls, each once, in the order of their first strikes
abbrev pub struck_after : List Entry → ℕ → List ℕ
struck_after history n = (after_all empty (take n history)).struck

-- the calls of one caller with their replies, in their order
abbrev pub own_calls : ℕ → List Entry → List Entry
own_calls caller history = filter (λ e. e.caller == caller) history

-- whether a call strikes this candidate
abbrev pub strikes : ℕ → Call → Bool
strikes candidate (Change change) = false
strikes candidate Freeze = false
strikes candidate (Strike struck) = struck == candidate
