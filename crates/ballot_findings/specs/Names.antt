-- Candidates whose names or seats want a look.
use Rattle.std.specs.Prelude.{ℕ, ◌-◌, ◌==◌, Bool, not, ◌&&◌, List, [], length, map, count_by, slice_index_or}
use Rattle.std.specs.Char.{to_ascii_lowercase}
use Rattle.std.specs.List.{filter, range_with_len}
use Rattle.std.specs.Str.{bytes_eq}
use Rattle.candidate_roll.specs.Roll.{RollList, is_withdrawn}

-- the name of candidate c
abbrev pub name_of : (names : List (List ℕ)) → (c : ℕ) → List ℕ
name_of names c = slice_index_or names (c - 1) []

-- Both have the same name, to the byte.
abbrev pub have_one_name : (names : List (List ℕ)) → (c d : ℕ) → Bool
have_one_name names c d = bytes_eq (name_of names c) (name_of names d)

-- a name without its spaces (32), in small letters where they are those of ASCII
abbrev pub plainly : (name : List ℕ) → List ℕ
plainly name = map to_ascii_lowercase (filter (λ b. not (b == 32)) name)

-- The names are not the same, but only spaces and the case of ASCII letters tell them apart.
abbrev pub have_like_names : (names : List (List ℕ)) → (c d : ℕ) → Bool
have_like_names names c d =
    not (have_one_name names c d) && bytes_eq (plainly (name_of names c)) (plainly (name_of names d))

-- how many candidates run, who are all that are not withdrawn
abbrev pub running : RollList → ℕ
running roll = count_by (λ c. not (is_withdrawn roll.withdrawn c)) (range_with_len 1 (length roll.names))
