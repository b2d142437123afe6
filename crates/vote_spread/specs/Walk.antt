-- Stems in preorder.
use Rattle.std.specs.Prelude.{ℕ, ◌+◌, ◌-◌, ◌^◌, ◌<◌, ◌≤◌, List, [], ◌∷◌, length, take, drop, All}
use Rattle.plain_ballots.specs.declared.limits.TheConstants.{MOST_CANDIDATES}
use Rattle.vote_spread.specs.declared.branch.Branch.{Branch}
use Rattle.vote_spread.specs.Stem.{Stem}

-- stems that begin no deeper than d
abbrev pub IsFrom : ℕ → List Stem → Type 0
IsFrom d [] = Unit {0}
IsFrom d (stem ∷ stems) = stem.depth ≤ d

-- A stem before other stems: its depth is from 1 to m and with its tail at most 250, its candidates are among n, the
-- stems below it stand right after it and are deeper, and those after them are not.
pub record IsPlaced (n m : ℕ) (stem : Stem) (stems : List Stem) : Type 0 where
  pub below_root : 1 ≤ stem.depth
  pub not_too_deep : stem.depth ≤ m
  pub shallow : stem.depth + length stem.tail ≤ MOST_CANDIDATES
  pub candidate : 1 ≤ stem.candidate
  pub known : stem.candidate ≤ n
  pub ranks : All (λ r. (1 ≤ r) × (r ≤ n)) stem.tail
  pub itself : 1 ≤ stem.skip
  pub inside : stem.skip ≤ length stems + 1
  pub deeper : All (λ other. stem.depth + 1 ≤ other.depth) (take (stem.skip - 1) stems)
  pub behind : IsFrom stem.depth (drop (stem.skip - 1) stems)

-- Stems in preorder that begin at depth m or before. Each is at most one deeper than the one before it.
abbrev pub IsWalk : (n m : ℕ) → List Stem → Type 0
IsWalk n m [] = Unit {0}
IsWalk n m (stem ∷ stems) = IsPlaced n m stem stems × IsWalk n (stem.depth + 1) stems

-- each branch has its tail among so many candidates
abbrev pub HaveTails : ℕ → List Branch → Type 0
HaveTails length branches = All (λ b. b.tail + b.length ≤ length) branches

-- and they are not too many
pub record ArePacked (length_of_tails : ℕ) (branches : List Branch) : Type 0 where
  pub tails : HaveTails length_of_tails branches
  pub few : length branches < 2 ^ 32
