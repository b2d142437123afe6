-- Lists of answered calls.
use Rattle.std.specs.Prelude.{ℕ, List}
use Rattle.batch_core.specs.declared.entry.Entry.{Entry}

-- answered calls, with room for so many more
pub record EntryList : Type 0 where
  pub items : List Entry
  pub spare : ℕ
