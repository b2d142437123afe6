-- What candidates do to weights.
use Rattle.std.specs.Prelude.{◌≡◌, ℕ, ◌≤◌, ◌==◌, Bool, true, false, if◌then◌else◌, List, map}
use Rattle.vote_spread.specs.declared.class.Class.{Class}
use Rattle.vote_spread.specs.declared.class.Class.TheVariants.{Passes, Shares, Keeps}

-- the class of a candidate with keep value k, where s units are the whole
abbrev pub class_of : (s k : ℕ) → Class
class_of s k = if k == 0 then Passes else (if k == s then Keeps else Shares)

-- whether a candidate of a class keeps anything
abbrev pub keeps_some : Class → Bool
keeps_some Passes = false
keeps_some Shares = true
keeps_some Keeps = true

-- and whether it leaves anything
abbrev pub leaves_some : Class → Bool
leaves_some Passes = true
leaves_some Shares = true
leaves_some Keeps = false

-- these keep values, in units of which s are the whole, make these classes
pub record AreOf (s : ℕ) (keeps : List ℕ) (classes : List Class) : Type 0 where
  pub whole : 1 ≤ s
  pub same : map (class_of s) keeps ≡ classes
