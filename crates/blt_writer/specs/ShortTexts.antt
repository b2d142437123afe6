-- The texts of numbers below 256, four bytes for each. 32 is a space.
use Rattle.std.specs.Prelude.{◌≡◌, ℕ, ◌*◌, ◌<◌, ◌≤◌, List, length, take, drop, slice_index}
use Rattle.blt_writer.specs.Text.{number_then}

-- a number's text begins at its four bytes, and is so long
pub record IsTextOf (texts lens : List ℕ) (n : ℕ) : Type 0 where
  pub short : slice_index lens n ≤ 4
  pub text : take (slice_index lens n) (drop (4 * n) texts) ≡ number_then 32 n

-- the texts of the numbers below this one
pub record AreTextsBelow (end : ℕ) (texts lens : List ℕ) : Type 0 where
  pub texts_long : length texts ≡ 1024
  pub lens_long : length lens ≡ 256
  pub each : (n : ℕ) → n < end → IsTextOf texts lens n

abbrev pub AreTexts : (texts lens : List ℕ) → Type 0
AreTexts texts lens = AreTextsBelow 256 texts lens
