-- The factors of keep values.
use Rattle.std.specs.Prelude.{ℕ, ◌-◌, List, map}
use Rattle.fixed_place.specs.Rounding.{up}

-- the share of a weight that a candidate of keep value k leaves, where s is the whole: in parts of 2^63, rounded up
abbrev pub factor_of : (s k : ℕ) → ℕ
factor_of s k = up s 9223372036854775808 (s - k)

abbrev pub factors_of : (s : ℕ) → List ℕ → List ℕ
factors_of s keeps = map (factor_of s) keeps
