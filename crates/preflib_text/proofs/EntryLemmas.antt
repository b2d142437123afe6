-- The first colon of a line.
use Rattle.std.proofs.Common.{◌≡◌, ℕ, suc, ◌+◌, ◌<◌, Bool, true, false, cond, not, ◌||◌, List, [], ◌∷◌, length}
use Rattle.std.proofs.Common.{refl, arith}
use Rattle.std.specs.List.{list_any, position_or_len}

module _ (p : ℕ → Bool) where
  pub none_passes : (xs : List ℕ) → position_or_len p xs ≡ length xs → list_any p xs ≡ false
  none_passes [] is = refl
  none_passes (x ∷ xs) is =
      let n = position_or_len p xs in
      (elim (p x) as (λ t. cond (not t) (1 + n) 0 ≡ suc (length xs) → (t || list_any p xs) ≡ false) [
        | true ↦ λ none. absurd (omega (arith, none))
        | false ↦ λ all. none_passes xs (omega (arith, all))
      ]) is

  pub some_passes : (xs : List ℕ) → position_or_len p xs < length xs → list_any p xs ≡ true
  some_passes [] is = absurd (omega (arith, is))
  some_passes (x ∷ xs) is =
      let n = position_or_len p xs in
      (elim (p x) as (λ t. cond (not t) (1 + n) 0 < suc (length xs) → (t || list_any p xs) ≡ true) [
        | true ↦ λ first. refl
        | false ↦ λ less. some_passes xs (omega (arith, less))
      ]) is
