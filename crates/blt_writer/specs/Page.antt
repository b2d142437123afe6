-- Bytes that stand on a page until they are written.
use Rattle.std.specs.Prelude.{◌≡◌, ℕ, List, ◌++◌, Option, Result}
use Rattle.piece_text.specs.Writing.{Writes}

-- A front of what stood on the page was written, or a front of that, and the rest is there still.
pub record HandsOver {S T E : Type 0} (written : S → Option (List ℕ)) (faults : S → ℕ) (old new : S) (before after : List ℕ) (result : Result T E) : Type 0 where
  pub front : List ℕ
  pub parts : front ++ after ≡ before
  pub writes : Writes written faults old new front result
