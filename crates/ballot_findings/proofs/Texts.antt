-- Texts in UTF-8, as a test.
use Rattle.std.proofs.Common.{◌≡◌, ◌<◌, sym, ℕ, List, Bool, true, false, length, inl, inr, arith}
use Rattle.std.specs.Bool.{MatchBool}
use Rattle.std.specs.List.{list_any, HoldsAt, AllWithin}
use Rattle.std.specs.Str.{IsUtf8, is_utf8}
use Rattle.std.proofs.lemmas.Bool.{cases_Bool}
use Rattle.std.proofs.lemmas.List.Folds.{list_any_at, list_any_none}
use Rattle.std.proofs.lemmas.Str.{IsUtf8-from_is_utf8}

pub no_text : (bytes : List ℕ) → (IsUtf8 bytes → ⊥) → is_utf8 bytes ≡ false
no_text bytes none =
    elim (cases_Bool (is_utf8 bytes)) [
      | inl text ↦ absurd (none (IsUtf8-from_is_utf8 bytes text))
      | inr other ↦ other
    ]

-- what a search through a list says
pub any_found :
    (test : ℕ → Bool) (xs : List ℕ) (r : Bool)
    → MatchBool r ((k : ℕ) × (k < length xs) × HoldsAt (λ x. test x ≡ true) xs k)
    (AllWithin (λ x. test x ≡ false) xs 0 (length xs))
    → r ≡ list_any test xs
any_found test xs true (k, inside, holds) = sym (list_any_at test xs k 0 inside (holds 0))
any_found test xs false none = sym (list_any_none test xs (λ k d inside. none k d (omega arith) inside))
