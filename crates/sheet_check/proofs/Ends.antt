-- Where a line `end` stands.
use Rattle.std.proofs.Common.{◌≡◌, ℕ, ◌+◌, ◌<◌, ◌≤◌, List, [], ◌∷◌, ◌++◌, length, take, drop, refl}
use Rattle.std.proofs.Common.{ap, arith, length-take, length-drop}
use Rattle.std.specs.Prelude.{codes}
use Rattle.sheet_check.specs.Input.{HasEndAt, HasNoEnd, IsSplit}

-- the line fits into the input
pub end_fits : (input : List ℕ) (at : ℕ) → HasEndAt input at → at + 4 ≤ length input
end_fits input at stands =
    let four : length (codes "end" ++ 10 ∷ []) ≡ 4 = refl in
    omega (arith, ap length stands.is_end, four, length-take 4 (drop at input), length-drop at input)

-- so where it is at no place in the input it stands nowhere
pub nowhere : (input : List ℕ) → ((k : ℕ) → k < length input → ¬ HasEndAt input k) → HasNoEnd input
nowhere input none at stands = none at (omega (arith, end_fits input at stands)) stands

-- the split at the first such line
pub split_at_end :
    (input : List ℕ) (at : ℕ) → HasEndAt input at → ((k : ℕ) → k < at → ¬ HasEndAt input k)
    → IsSplit input (take (at + 4) input) (drop (at + 4) input)
split_at_end input at stands none =
    record { at = at; first = record { stands = stands; none_before = none }; sheet_is = refl; file_is = refl }
