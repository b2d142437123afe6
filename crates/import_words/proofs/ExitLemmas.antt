-- What a refusal says.
use Rattle.std.proofs.Common.{◌≡◌, ◌≤◌, Option, Some, None, List, [], ◌∷◌, length, arith}
use Rattle.std.specs.Prelude.{IfNone}
use Rattle.meek_words.specs.Numerals.{Word}
use Rattle.import_words.specs.Settings.{IsAtMostOnce, IsOnce}

-- what holds anyway holds where there is nothing
pub none_anyway : {A P : Type 0} (r : Option A) → P → IfNone r P
none_anyway (Some x) p = tt
none_anyway None p = p

-- and what holds where there is nothing, holds there
pub where_none : {A P : Type 0} (r : Option A) → r ≡ None → IfNone r P → P
where_none (Some x) e p = cc
where_none None e p = p

-- an option that may stand once does not stand twice
pub no_twice :
    (ByDefault : Type 0) (P : Word → Type 0) (values : List Word) → IsAtMostOnce ByDefault P values
    → 2 ≤ length values → ⊥
no_twice ByDefault P [] once twice = omega arith
no_twice ByDefault P (word ∷ []) once twice = omega arith
no_twice ByDefault P (word ∷ again ∷ values) once twice = once

-- nor does one that has to stand once
pub not_twice : (P : Word → Type 0) (values : List Word) → IsOnce P values → 2 ≤ length values → ⊥
not_twice P [] once twice = once
not_twice P (word ∷ []) once twice = omega arith
not_twice P (word ∷ again ∷ values) once twice = once
