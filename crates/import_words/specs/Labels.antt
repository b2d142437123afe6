-- Labels: heads of columns, and what cells say.
use Rattle.std.specs.Prelude.{◌≡◌, ◌≢◌, ◌≤◌, ◌-◌, List, length, slice_index, All}
use Rattle.std.specs.List.{AllPairs}
use Rattle.meek_words.specs.Numerals.{Word}

-- some bytes, none of them a control byte, with no blank (32) at either end
pub record IsLabel (word : Word) : Type 0 where
  pub some : 1 ≤ length word
  pub printable : All (λ b. 32 ≤ b) word
  pub first : slice_index word 0 ≢ 32
  pub last : slice_index word (length word - 1) ≢ 32

-- each value is a label
abbrev pub AreLabels : List Word → List Word → Type 0
AreLabels values labels = (labels ≡ values) × All IsLabel values

-- no two are the same
abbrev pub AreDifferent : List Word → Type 0
AreDifferent words = AllPairs (λ word other. word ≢ other) words
