-- What the line of an answered call says of who called; 32 is a space.
use Rattle.std.specs.Prelude.{◌≡◌, ℕ, List, [], ◌∷◌, ◌++◌, decimal}
use Rattle.day_lines.specs.EntryText.{caller_text}

-- how the line of the n-th call begins, where this caller made it
abbrev pub call_front : (n caller : ℕ) → List ℕ
call_front n caller = decimal n ++ 32 ∷ (caller_text caller ++ 32 ∷ [])

-- the line says that this caller made the n-th call
abbrev pub Says : (n caller : ℕ) → (line : List ℕ) → Type 0
Says n caller line = (rest : List ℕ) × (line ≡ call_front n caller ++ rest)

-- a text begins with this number and a space
abbrev pub BeginsWith : ℕ → (text : List ℕ) → Type 0
BeginsWith number text = (rest : List ℕ) × (text ≡ (decimal number ++ 32 ∷ []) ++ rest)
