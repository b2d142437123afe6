-- The keep values at which lanes distribute.
use Rattle.std.specs.Prelude.{◌≡◌, ℕ, ◌≤◌, Bool, false, List, map, All}
use Rattle.vote_spread.specs.declared.class.Class.{Class}
use Rattle.vote_spread.specs.Class.{class_of}
use Rattle.vote_spread.specs.Factor.{factors_of}

-- keep values, in units of which `one` are the whole, and whether a class changed since the lanes made their
-- rows
pub record KeepingSeen : Type 0 where
  pub one : ℕ
  pub keeps : List ℕ
  pub stale : Bool

-- what each candidate does to a weight
abbrev pub classes_of : KeepingSeen → List Class
classes_of keeping = map (class_of keeping.one) keeping.keeps

-- the same keep values, once all lanes have made their rows
abbrev pub settled : KeepingSeen → KeepingSeen
settled keeping = record { one = keeping.one; keeps = keeping.keeps; stale = false }

-- At most a billion units are the whole, no keep value is more, and these are their factors.
pub record HaveFactors (one : ℕ) (keeps factors : List ℕ) : Type 0 where
  pub whole : 1 ≤ one
  pub small : one ≤ 1000000000
  pub at_most_one : All (λ k. k ≤ one) keeps
  pub factors_are : factors ≡ factors_of one keeps

-- what follows from keep values: their factors, and the classes of the candidates
pub record AreKept (one : ℕ) (keeps factors : List ℕ) (classes : List Class) : Type 0 where
  pub have_factors : HaveFactors one keeps factors
  pub classes_are : classes ≡ map (class_of one) keeps

-- These keep values are taken over. Where no rows are stale then, none were before, and each class is
-- what it was.
pub record TakesOver (given : List ℕ) (old new : KeepingSeen) : Type 0 where
  pub same_one : new.one ≡ old.one
  pub taken : new.keeps ≡ given
  pub at_most_one : All (λ k. k ≤ new.one) new.keeps
  pub fresh : new.stale ≡ false → (old.stale ≡ false) × (classes_of new ≡ classes_of old)
