-- The line of an order of lots, as the program takes it for its lots.
use Rattle.std.specs.Prelude.{ℕ, zero, suc, List, [], ◌∷◌, ◌++◌, map, decimal}
use Rattle.std.specs.List.{join_with_byte}

-- the candidates with a comma (44) between each two, and a line feed (10)
abbrev pub drawn_line : List ℕ → List ℕ
drawn_line order = join_with_byte 44 (map decimal order) ++ 10 ∷ []

-- a candidate after so many others
abbrev pub behind : ℕ → ℕ → List ℕ
behind zero c = decimal c
behind (suc others) c = 44 ∷ decimal c
