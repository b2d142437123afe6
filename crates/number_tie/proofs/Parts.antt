-- The parts of all shares of a tie, as shares change.
use Rattle.std.proofs.Common.{◌≡◌, ◌≢◌, ℕ, zero, suc, ◌+◌, ◌<◌, ◌≤◌, List, [], ◌∷◌, ◌++◌, set, sym, ap, ◌∙◌, arith}
use mathlib.Core.Option.{some, some-injective, some-ne-none}
use lib.ListN.{get_elem?}
use Rattle.atomic_table.proofs.Lists.{set_else}
use Rattle.number_tie.specs.declared.share.Share.{Share}
use Rattle.number_tie.specs.Share.{spent}
use Rattle.number_tie.specs.Tied.{all_parts}

pub parts-set :
    (l : List Share) (i : ℕ) (v w : Share) → get_elem? l i ≡ some v
    → all_parts (set l i w) + v.parts ≡ all_parts l + w.parts
parts-set [] i v w e = absurd (some-ne-none v (sym e))
parts-set (x ∷ xs) zero v w e =
    let is : x.parts ≡ v.parts = ap (λ (s : Share). s.parts) (some-injective x v e) in omega arith
parts-set (x ∷ xs) (suc i) v w e = let r = parts-set xs i v w e in omega arith

pub parts-snoc : (l : List Share) (v : Share) → all_parts (l ++ v ∷ []) ≡ all_parts l + v.parts
parts-snoc [] v = omega arith
parts-snoc (x ∷ xs) v = let r = parts-snoc xs v in omega arith

parts-at : (l : List Share) (i : ℕ) (v : Share) → get_elem? l i ≡ some v → v.parts ≤ all_parts l
parts-at [] i v e = absurd (some-ne-none v (sym e))
parts-at (x ∷ xs) zero v e = let is : x.parts ≡ v.parts = ap (λ (s : Share). s.parts) (some-injective x v e) in omega arith
parts-at (x ∷ xs) (suc i) v e = let r = parts-at xs i v e in omega arith

-- where one share has all parts, each other one has none
pub others_spent :
    (l : List Share) (i k : ℕ) (v u : Share) → all_parts l ≡ v.parts → get_elem? l i ≡ some v → k ≢ i
    → get_elem? l k ≡ some u → 0 < u.parts → ⊥
others_spent l i k v u is at apart there some_part =
    let s = parts-set l i v spent at in
    let t : u.parts ≤ all_parts (set l i spent) = parts-at (set l i spent) k u (set_else l i k spent apart ∙ there) in
    omega arith
