-- One bag of ballots has one plan.
use Rattle.std.proofs.Common.{◌≡◌, ℕ, ◌+◌, ◌-◌, List, [], ◌∷◌, ◌++◌, length, map, replicate, suc, arith, refl, ap, sym, ◌∙◌}
use Rattle.std.specs.List.Sorted.{IsPermutation}
use Rattle.ranking_trie.specs.Forest as trie
use Rattle.ranking_trie.specs.Forest.{Empty, Grow}
use Rattle.ranking_trie.specs.Bag.{bag, root_bag, IsRising, HaveSameForm}
use Rattle.ranking_trie.specs.BallotBag.{AreInOrder}
use Rattle.frozen_plan.specs.Forest.{Forest, Bare, Grown, ballots_of, through, IsGrown}
use Rattle.frozen_plan.specs.Shape.{shape_of}
use Rattle.frozen_plan.specs.Plan.{ballot_count, forest_of, plan_rows}
use Rattle.frozen_plan.specs.OneBag.{OneBagHasOnePlan}
use Rattle.frozen_plan.proofs.ReadLemmas.{length-ballots_of}
use Rattle.frozen_plan.proofs.TrieLemmas.{ballots_of-shape}

-- a trie's nodes of this shape: where they lie makes no difference
abbrev grow : Forest → trie.Forest
grow Bare = Empty
grow (Grown c n inner next) = Grow c n 0 (grow inner) (grow next)

shape-grow : (f : Forest) → shape_of (grow f) ≡ f
shape-grow Bare = refl
shape-grow (Grown c n inner next) =
    ap (λ (low : Forest). Grown c n low (shape_of (grow next))) (shape-grow inner) ∙ ap (Grown c n inner) (shape-grow next)

bag-grow : (f : Forest) → bag (grow f) ≡ ballots_of f
bag-grow f = sym (ballots_of-shape (grow f)) ∙ ap ballots_of (shape-grow f)

rising : (n low d : ℕ) (f : Forest) → IsGrown n low d f → IsRising low (grow f)
rising n low d Bare is = tt
rising n low d (Grown c k inner next) is = (
  is.0,
  omega (arith, is.3, ap length (bag-grow inner), length-ballots_of inner),
  rising n 0 (d + 1) inner is.4,
  rising n c d next is.5,
)

shape-HaveSameForm : (f g : trie.Forest) → HaveSameForm f g → shape_of f ≡ shape_of g
shape-HaveSameForm Empty Empty same = refl
shape-HaveSameForm Empty (Grow d m q inner next) same = absurd same
shape-HaveSameForm (Grow c n p inner next) Empty same = absurd same
shape-HaveSameForm (Grow c n p inner next) (Grow d m q inner_2 next_2) same =
    ap (λ (x : ℕ). Grown x n (shape_of inner) (shape_of next)) same.0
    ∙ (ap (λ (k : ℕ). Grown d k (shape_of inner) (shape_of next)) same.1
    ∙ (ap (λ (low : Forest). Grown d m low (shape_of next)) (shape-HaveSameForm inner inner_2 same.2)
    ∙ ap (Grown d m (shape_of inner_2)) (shape-HaveSameForm next next_2 same.3)))

-- what the law of tries says of their order and form
pub record HaveOneForm : Type 0 where
  pub order : (ends : ℕ) (f : trie.Forest) → IsRising 0 f → AreInOrder (root_bag ends f)
  pub unique : (xs ys : List (List ℕ)) → AreInOrder xs → AreInOrder ys → IsPermutation xs ys → xs ≡ ys
  pub form : (f g : trie.Forest) → IsRising 0 f → IsRising 0 g → bag f ≡ bag g → HaveSameForm f g

-- roots of the same ballots have the same nodes: below a node of candidate 1 each, they stand for the same ballots
same_roots : HaveOneForm → (n m ends more : ℕ) (f g : Forest) → IsGrown n 0 1 f → IsGrown m 0 1 g
    → IsPermutation (replicate ends [] ++ ballots_of f) (replicate more [] ++ ballots_of g)
    → plan_rows ends f ≡ plan_rows more g
same_roots law n m ends more f g grown_f grown_g same =
    let rising_f = rising n 0 1 f grown_f in
    let rising_g = rising m 0 1 g grown_g in
    let bags : IsPermutation (root_bag ends (grow f)) (root_bag more (grow g)) =
    rw (bag-grow f) (rw (bag-grow g) same) in
    let equal : root_bag ends (grow f) ≡ root_bag more (grow g) =
    law.unique (root_bag ends (grow f)) (root_bag more (grow g)) (law.order ends (grow f) rising_f)
    (law.order more (grow g) rising_g) bags in
    let forms = law.form (Grow 1 (suc ends) 0 (grow f) Empty) (Grow 1 (suc more) 0 (grow g) Empty)
    (omega arith, omega arith, rising_f, tt) (omega arith, omega arith, rising_g, tt)
    (ap (λ (l : List (List ℕ)). map (λ r. 1 ∷ r) ([] ∷ l) ++ []) equal) in
    let as_many : suc ends ≡ suc more = forms.1 in
    let nodes : f ≡ g = sym (shape-grow f) ∙ (shape-HaveSameForm (grow f) (grow g) forms.2 ∙ shape-grow g) in
    let ends_same : ends ≡ more = omega (arith, as_many) in
    ap (λ (k : ℕ). plan_rows k f) ends_same ∙ ap (plan_rows more) nodes

pub one_plan : HaveOneForm → OneBagHasOnePlan
one_plan law one other is_one is_other same =
    is_one.preorder
    ∙ (same_roots law one.candidates other.candidates (ballot_count one.rows - through (forest_of one.rows))
    (ballot_count other.rows - through (forest_of other.rows))
    (forest_of one.rows) (forest_of other.rows) is_one.grown is_other.grown same ∙ sym is_other.preorder)
