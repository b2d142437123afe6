-- Values that may be there, and the first of faults.
use Rattle.std.proofs.Common.{◌≡◌, ℕ, List, [], ◌∷◌, ◌++◌, Option, Some, None, All, refl}
use Rattle.std.specs.Option.{option_map, option_and_then, option_or}
use Rattle.std.proofs.lemmas.List.Elements.{All-nil, All-cons, All-head, All-tail}
use Rattle.preflib_text.specs.declared.pref_fault.PrefFault.{PrefFault}
use Rattle.preflib_text.specs.Faults.{first_of}

abbrev pub IsNothing : {X : Type 0} → Option X → Type 0
IsNothing o = o ≡ None

pub or_none : {X : Type 0} (a b : Option X) → option_or a b ≡ None → IsNothing a × IsNothing b
or_none None b is = (refl, is)
or_none (Some x) b is = absurd (cc is)

pub none_or : {X : Type 0} (a b : Option X) → IsNothing a → IsNothing b → option_or a b ≡ None
none_or None b none other = other
none_or (Some x) b none other = absurd (cc none)

-- what a mapped value comes from
pub mapped :
    {X Y : Type 0} (f : X → Y) (o : Option X) (y : Y) → option_map f o ≡ Some y
    → (x : X) × (o ≡ Some x) × (f x ≡ y)
mapped f None y is = absurd (cc is)
mapped f (Some x) y is = (x, refl, cc is)

-- two lists joined, where both are there
abbrev pub joined : Option (List (List ℕ)) → Option (List (List ℕ)) → Option (List (List ℕ))
joined first rest = option_and_then (λ xs. option_map (λ ys. xs ++ ys) rest) first

-- both of two are there, and joined they are these
pub record IsJoined (first rest : Option (List (List ℕ))) (all : List (List ℕ)) : Type 0 where
  pub front : List (List ℕ)
  pub back : List (List ℕ)
  pub first_is : first ≡ Some front
  pub rest_is : rest ≡ Some back
  pub all_is : front ++ back ≡ all

pub parted : (first rest : Option (List (List ℕ))) (all : List (List ℕ)) → joined first rest ≡ Some all
    → IsJoined first rest all
parted None rest all is = absurd (cc is)
parted (Some front) None all is = absurd (cc is)
parted (Some front) (Some back) all is =
    record { front = front; back = back; first_is = refl; rest_is = refl; all_is = cc is }

-- no fault is the first where none is there
pub first_none : (fs : List (Option PrefFault)) → first_of fs ≡ None → All IsNothing fs
first_none [] is = All-nil IsNothing
first_none (None ∷ fs) is = All-cons IsNothing None fs refl (first_none fs is)
first_none (Some f ∷ fs) is = absurd (cc is)

pub none_first : (fs : List (Option PrefFault)) → All IsNothing fs → first_of fs ≡ None
none_first [] all = refl
none_first (None ∷ fs) all = none_first fs (All-tail IsNothing None fs all)
none_first (Some f ∷ fs) all = absurd (cc (All-head IsNothing (Some f) fs all))
