-- An input that is a sheet and after it a ballot file; 10 is the line feed.
use Rattle.std.specs.Prelude.{◌≡◌, ◌⊎◌, ℕ, ◌+◌, ◌-◌, ◌<◌, List, [], ◌∷◌, ◌++◌, take, drop, slice_index, codes}

-- At the front of the input a line begins, and so it does after each line feed.
abbrev pub IsLineStart : List ℕ → ℕ → Type 0
IsLineStart input at = (at ≡ 0) ⊎ (slice_index input (at - 1) ≡ 10)

-- A line `end`, with its line feed, is at this place.
pub record HasEndAt (input : List ℕ) (at : ℕ) : Type 0 where
  pub starts : IsLineStart input at
  pub is_end : take 4 (drop at input) ≡ codes "end" ++ 10 ∷ []

-- Such a line stands nowhere in the input.
abbrev pub HasNoEnd : List ℕ → Type 0
HasNoEnd input = (at : ℕ) → ¬ HasEndAt input at

-- It is here, and at no place before.
pub record IsFirstEnd (input : List ℕ) (at : ℕ) : Type 0 where
  pub stands : HasEndAt input at
  pub none_before : (k : ℕ) → k < at → ¬ HasEndAt input k

-- The sheet is the input up to and including its first line `end`, and the file is all after it.
pub record IsSplit (input sheet file : List ℕ) : Type 0 where
  pub at : ℕ
  pub first : IsFirstEnd input at
  pub sheet_is : sheet ≡ take (at + 4) input
  pub file_is : file ≡ drop (at + 4) input
