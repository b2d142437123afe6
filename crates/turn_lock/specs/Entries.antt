-- Lists of entries: what begins with what, and what belongs to whom.
use Rattle.std.specs.Prelude.{◌≡◌, ℕ, Bool, true, false, ◌==◌, List, [], ◌∷◌, ◌++◌, filter, length, nat_lt, Option, Some, None, if◌then◌else◌}
use Rattle.turn_lock.specs.declared.view.Gave.{Gave}

-- whether an owner is this one
abbrev pub is_by : ℕ → Option ℕ → Bool
is_by p None = false
is_by p (Some q) = p == q

-- whether there is an owner
abbrev pub has_one : Option ℕ → Bool
has_one None = false
has_one (Some q) = true

module _ {E : Type 0} where
  -- the second list begins with the first
  abbrev pub Begins : List E → List E → Type 0
  Begins front whole = (rest : List E) × (whole ≡ front ++ rest)

  -- the longer of two lists
  abbrev pub longer : List E → List E → List E
  longer xs ys = if nat_lt (length xs) (length ys) then ys else xs

  -- what the seat of this number gave, of those that were taken in
  abbrev pub taken_in : ℕ → List (Gave E) → List E
  taken_in p [] = []
  taken_in p (g ∷ gs) = if p == g.caller then g.mine else taken_in p gs

  module _ (owner : E → Option ℕ) where
    -- the entries of this owner, in their order
    abbrev pub owned_by : ℕ → List E → List E
    owned_by p = filter (λ e. is_by p (owner e))

    -- the entries that have an owner, in their order
    abbrev pub owned : List E → List E
    owned = filter (λ e. has_one (owner e))

    -- the seat of this number may give the entry: it has no owner, or this one
    abbrev pub MayGive : ℕ → E → Type 0
    MayGive p e = (q : ℕ) → owner e ≡ Some q → q ≡ p
