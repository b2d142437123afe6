-- The lines of calls, part by part. 32 is a space.
use Rattle.std.specs.Prelude.{◌≡◌, ℕ, ◌≤◌, ⊤, List, ◌∷◌, ◌++◌, All, decimal}
use Rattle.batch_core.specs.declared.entry.Entry.{Entry}
use Rattle.batch_core.specs.declared.reply.Reply.{Reply}
use Rattle.batch_core.specs.declared.reply.Reply.TheVariants.{Corrected, Withdrawn, Exists, Gone, Stale}
use Rattle.day_lines.specs.EntryText.{entries_text}
use Rattle.day_lines.specs.DayHistory.{EndsWithTheClerk}
use Rattle.day_text.specs.Said.{IsSaidEntry}

-- ---- numbers

-- from 1 to the greatest
abbrev pub IsUpTo : (most n : ℕ) → Type 0
IsUpTo most n = (1 ≤ n) × (n ≤ most)

-- a word, which brings its space, then a number, a space, and what is after
abbrev pub numbered_text : (word : List ℕ) → (n : ℕ) → (rest : List ℕ) → List ℕ
numbered_text word n rest = word ++ (decimal n ++ 32 ∷ rest)

-- the same with the numbers of a batch and of its revision
abbrev pub revised_text : (word : List ℕ) → (batch revision : ℕ) → (rest : List ℕ) → List ℕ
revised_text word batch revision rest = numbered_text word batch (decimal revision ++ 32 ∷ rest)

-- ---- calls

-- a reply that is a word and no number
abbrev pub IsWordOnly : Reply → Type 0
IsWordOnly (Corrected revision) = ⊥
IsWordOnly (Withdrawn revision) = ⊥
IsWordOnly (Exists revision) = ⊥
IsWordOnly (Gone revision) = ⊥
IsWordOnly (Stale revision) = ⊥
IsWordOnly reply = ⊤

-- The text begins with the calls of a whole history.
pub record BeginsWithCalls (text : List ℕ) (history : List Entry) (rest : List ℕ) : Type 0 where
  pub calls : All IsSaidEntry history
  pub ends : EndsWithTheClerk history
  pub text_is : text ≡ entries_text history ++ rest
