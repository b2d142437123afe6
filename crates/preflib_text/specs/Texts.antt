-- Blanks and numbers in a line.
use Rattle.std.specs.Prelude.{ℕ, ◌+◌, ◌-◌, ◌*◌, ◌==◌, ◌||◌, ◌&&◌, nat_le, Bool, if◌then◌else◌}
use Rattle.std.specs.Prelude.{List, [], ◌∷◌, length, take, drop, fold, Option, Some, None}
use Rattle.std.specs.List.{list_all, prefix_len, suffix_len}

-- a tab and a space, which may stand before and after whatever a line says
abbrev pub is_blank : ℕ → Bool
is_blank b = b == 9 || b == 32

-- what is after the blanks at the front
abbrev pub behind_blanks : List ℕ → List ℕ
behind_blanks bytes = drop (prefix_len is_blank bytes) bytes

-- bytes without blanks at either end
abbrev pub trimmed : List ℕ → List ℕ
trimmed bytes =
    let rest = behind_blanks bytes in
    take (length rest - suffix_len is_blank rest) rest

abbrev pub is_digit : ℕ → Bool
is_digit b = nat_le 48 b && nat_le b 57

-- the number that digits write
abbrev pub value : List ℕ → ℕ
value digits = fold (λ n d. n * 10 + (d - 48)) 0 digits

-- the number that some digits are
abbrev pub number : List ℕ → Option ℕ
number [] = None
number (b ∷ bs) = if list_all is_digit (b ∷ bs) then Some (value (b ∷ bs)) else None
