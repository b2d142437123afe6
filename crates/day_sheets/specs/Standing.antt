-- What the calls of a history do to the batches that stand.
use Rattle.std.specs.Prelude.{ℕ, ⊤, List, All}
use Rattle.batch_core.specs.declared.call.Call.{Call}
use Rattle.batch_core.specs.declared.call.Call.TheVariants.{Change, Freeze, Strike}
use Rattle.batch_core.specs.declared.reply.Reply.{Reply}
use Rattle.batch_core.specs.declared.reply.Reply.TheVariants.{Entered, Withdrawn}
use Rattle.batch_core.specs.declared.entry.Entry.{Entry}
use Rattle.batch_core.specs.Book.{batch_of}
use Rattle.batch_core.specs.Lawful.{IsInRange}

-- a change is about a batch with a number from 1 to 9,999
abbrev pub HasNumber : Call → Type 0
HasNumber (Change change) = IsInRange (batch_of change)
HasNumber Freeze = ⊤
HasNumber (Strike candidate) = ⊤

abbrev pub HaveNumbers : List Entry → Type 0
HaveNumbers entries = All (λ e. HasNumber e.call) entries

-- how many batches a call with this reply adds to those that stand
abbrev pub come : Reply → ℕ
come Entered = 1
come other = 0

-- how many of those that stand it removes
abbrev pub gone : Reply → ℕ
gone (Withdrawn revision) = 1
gone other = 0
