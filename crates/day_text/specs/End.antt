-- What is in the end of a history, by its calls alone.
use Rattle.std.specs.Prelude.{◌≡◌, ℕ, ◌≤◌, ◌-◌, ⊤, List, [], ◌∷◌, All, Option, Some, None, is_some, length, slice_index_or}
use Rattle.batch_core.specs.declared.limits.TheConstants.{LAST_NUMBER}
use Rattle.std.specs.List.{flat_map, range_with_len}
use Rattle.batch_core.specs.declared.batch.Batch.{Batch}
use Rattle.batch_core.specs.declared.entry.Entry.{Entry}
use Rattle.batch_core.specs.Book.{BookState, empty, last_batch}
use Rattle.batch_core.specs.Histories.{after_all}
use Rattle.day_text.specs.declared.batch_end.BatchEnd.{BatchEnd}

-- the batches that were entered, by rising number, and the struck candidates in the order of striking
pub record DayEndList : Type 0 where
  pub batches : List BatchEnd
  pub struck : List ℕ

-- what became of the batch of this number, if it was entered: its last revision, and whether it stands or is gone
abbrev pub batch_end : ℕ → Option Batch → Option BatchEnd
batch_end number None = None
batch_end number (Some batch) = Some (record { number = number; revision = batch.revision; stands = is_some batch.standing })

-- one item, or none
abbrev pub if_any : Option BatchEnd → List BatchEnd
if_any None = []
if_any (Some end) = end ∷ []

-- what became of the first batches, up to this number
abbrev pub batch_ends : BookState → (most : ℕ) → List BatchEnd
batch_ends book most = flat_map (λ number. if_any (batch_end number (book.batches number))) (range_with_len 1 most)

-- what a book says in the end, of all batches
abbrev pub end_of : BookState → DayEndList
end_of book = record { batches = batch_ends book last_batch; struck = book.struck }

-- the end of a history
abbrev pub day_end : List Entry → DayEndList
day_end history = end_of (after_all empty history)

-- ---- followed from call to call

-- the revision is one that a batch may have
abbrev pub IsRevised : Option BatchEnd → Type 0
IsRevised None = ⊤
IsRevised (Some end) = end.revision ≤ LAST_NUMBER

-- a table of all batch numbers: that of batch b is at index b - 1
pub record IsTable (table : List (Option BatchEnd)) : Type 0 where
  pub long : length table ≡ LAST_NUMBER
  pub revised : All IsRevised table

-- the table and the struck candidates are those of a book
pub record Follows (table : List (Option BatchEnd)) (struck : List ℕ) (book : BookState) : Type 0 where
  pub batches : (number : ℕ) → 1 ≤ number → number ≤ LAST_NUMBER → slice_index_or table (number - 1) None ≡ batch_end number (book.batches number)
  pub struck_are : struck ≡ book.struck
