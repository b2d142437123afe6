-- Values that are always there, but while a call has them.
use Rattle.std.specs.Prelude.{Option, Some, None}

-- what f says of the value, if it is there
abbrev pub or_else : {A B : Type 0} → B → (A → B) → Option A → B
or_else b f None = b
or_else b f (Some a) = f a

-- the value is there, and meets P
abbrev pub IsThere : {A : Type 0} → (A → Type 0) → Option A → Type 0
IsThere P None = ⊥
IsThere P (Some a) = P a
