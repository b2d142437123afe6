-- What is read and written, where source and sink tell it.
use Rattle.std.specs.Prelude.{◌≡◌, ℕ, ◌<◌, ◌≤◌, List, ◌++◌, length, Option, Some, None, ⊤}
use Rattle.std.specs.Io.KnownBytes.{Appends, Consumes}

-- Some front of the bytes was appended, maybe all of them.
abbrev pub AppendsFront : Option (List ℕ) → Option (List ℕ) → List ℕ → Type 0
AppendsFront old new bytes = (front : List ℕ) × (rest : List ℕ) × (bytes ≡ front ++ rest) × Appends old new front

-- Some front of what was left was taken, maybe none or all of it.
abbrev pub LosesFront : Option (List ℕ) → Option (List ℕ) → Type 0
LosesFront old new = (front : List ℕ) × Consumes old new front

-- More bytes were left than this.
abbrev pub IsLongerThan : ℕ → Option (List ℕ) → Type 0
IsLongerThan limit None = ⊤
IsLongerThan limit (Some bytes) = limit < length bytes

-- No more bytes were left than this.
abbrev pub IsWithin : ℕ → Option (List ℕ) → Type 0
IsWithin limit None = ⊤
IsWithin limit (Some bytes) = length bytes ≤ limit
