-- What fronts tell of rankings.
use Rattle.std.specs.Prelude.{◌≡◌, ℕ, ◌%◌, ◌≤◌, ◌<◌, List, All, take, slice_index}
use Rattle.plain_ballots.specs.declared.limits.TheConstants.{MOST_CANDIDATES}
use Rattle.packed_ballots.specs.Packed.{front_of}

-- numbers that candidates can have
abbrev pub AreNumbers : List ℕ → Type 0
AreNumbers ranks = All (λ r. (1 ≤ r) × (r ≤ MOST_CANDIDATES)) ranks

-- Rankings of one front have the same first eight ranks.
abbrev pub FrontsTellEight : Type 0
FrontsTellEight =
    (one other : List ℕ) → AreNumbers one → AreNumbers other → front_of one ≡ front_of other → take 8 one ≡ take 8 other

-- Where the last digit is 0 there are no more ranks, and the rankings are equal.
abbrev pub ShortFrontsTellAll : Type 0
ShortFrontsTellAll =
    (one other : List ℕ) → AreNumbers one → AreNumbers other → front_of one ≡ front_of other → front_of one % 256 ≡ 0
    → one ≡ other

-- Fronts in order are rankings in order of their first eight ranks: at the first place where they differ, the
-- first ranking has the lower rank, or has ended.
abbrev pub FrontsAreInOrder : Type 0
FrontsAreInOrder =
    (one other : List ℕ) → AreNumbers one → AreNumbers other → front_of one ≤ front_of other
    → (at : ℕ) → at < 8 → take at one ≡ take at other → slice_index one at ≤ slice_index other at
