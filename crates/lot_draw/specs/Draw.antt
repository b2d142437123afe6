-- An order of lots drawn from a seed, so that anybody can draw it again.
use Rattle.std.specs.Prelude.{◌≡◌, ℕ, ◌+◌, ◌-◌, ◌*◌, ◌%◌, ◌^◌, ◌<◌, ◌==◌, Bool, not, List, [], ◌∷◌, ◌++◌, length, take, slice_index, filter, decimal}
use Rattle.std.specs.List.{list_any, range_with_len}
use Rattle.sha2.specs.Sha256.{sha256}

-- the number that bytes write, the first byte highest
abbrev pub big_endian : List ℕ → ℕ
big_endian [] = 0
big_endian (b ∷ bytes) = b * 256 ^ length bytes + big_endian bytes

-- where among so many candidates the next one is drawn, from 0: the SHA-256 of the seed, a comma (44)
-- and their number in decimal, as a number modulo theirs
unfoldable pub drawn_place : (seed : List ℕ) → (candidates : ℕ) → ℕ
drawn_place seed candidates = big_endian (sha256 (seed ++ 44 ∷ decimal candidates)) % candidates

abbrev pub is_among : List ℕ → ℕ → Bool
is_among drawn c = list_any (λ d. d == c) drawn

-- the candidates from 1 to n who were not drawn yet, in rising order
abbrev pub not_drawn : (n : ℕ) → (drawn : List ℕ) → List ℕ
not_drawn n drawn = filter (λ c. not (is_among drawn c)) (range_with_len 1 n)

-- Each candidate of the order is the one who stood at the drawn place of those left. Of one that is
-- left the place is 0 whatever the digest is, so the last one follows by itself.
pub record IsDraw (seed : List ℕ) (n : ℕ) (order : List ℕ) : Type 0 where
  pub everybody : length order ≡ n
  pub drawn : (k : ℕ) → k < n → slice_index order k ≡ slice_index (not_drawn n (take k order)) (drawn_place seed (n - k))
