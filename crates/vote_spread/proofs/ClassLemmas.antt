-- What candidates of each class keep.
use Rattle.std.proofs.Common.{◌≡◌, ℕ, ◌-◌, ◌*◌, ◌<◌, ◌==◌, cond, List, length, get_or, arith, ap, sym, ◌∙◌, inl, inr}
use Rattle.std.specs.Int.{div_ceil}
use Rattle.std.proofs.lemmas.Bool.{cases_eq, eq-eqb, ne_eqb}
use Rattle.std.proofs.lemmas.List.{length-map, get_or-map}
use Rattle.std.proofs.Math.Nat.{div-eq_of_lt, mod-eq_of_lt}
use Rattle.fixed_place.specs.Rounding.{up}
use Rattle.meek_rule.specs.Weights.{kept}
use Rattle.vote_spread.specs.declared.class.Class.{Class}
use Rattle.vote_spread.specs.declared.class.Class.TheVariants.{Passes, Shares, Keeps}
use Rattle.vote_spread.specs.Class.{class_of, AreOf}

passes_zero : (s k : ℕ) → class_of s k ≡ Passes → k ≡ 0
passes_zero s k is = elim (cases_eq k 0) [
  | inl none ↦ none
  | inr some ↦
      let other : class_of s k ≡ cond (k == s) Keeps Shares =
      ap (λ b. cond b Passes (cond (k == s) Keeps Shares)) (ne_eqb k 0 some) in
      elim (cases_eq k s) [
        | inl all ↦
            let keeps : cond (k == s) Keeps Shares ≡ Keeps =
            ap (λ b. cond b Keeps Shares) (eq-eqb k s all) in
            absurd (cc)
        | inr less ↦
            let shares : cond (k == s) Keeps Shares ≡ Shares =
            ap (λ b. cond b Keeps Shares) (ne_eqb k s less) in
            absurd (cc)
      ]
]

-- a candidate has the class of its keep value
class_at :
    (s : ℕ) (keeps : List ℕ) (classes : List Class) (i : ℕ) (d : Class) → AreOf s keeps classes
    → i < length classes → class_of s (get_or keeps i 0) ≡ get_or classes i d
class_at s keeps classes i d are lt =
    let many : length classes ≡ length keeps = sym (ap length are.same) ∙ length-map keeps (class_of s) in
    sym (get_or-map (class_of s) keeps i 0 d (omega arith)) ∙ ap (λ (l : List Class). get_or l i d) are.same

-- one of keep value 0 keeps nothing
pub passed :
    (s : ℕ) (keeps : List ℕ) (classes : List Class) (w r : ℕ) (d : Class) → AreOf s keeps classes
    → r - 1 < length classes → get_or classes (r - 1) d ≡ Passes → kept s keeps w r ≡ 0
passed s keeps classes w r d are lt is =
    let none : get_or keeps (r - 1) 0 ≡ 0 =
    passes_zero s (get_or keeps (r - 1) 0) (class_at s keeps classes (r - 1) d are lt ∙ is) in
    let zero : w * 0 ≡ 0 = omega arith in
    ap (λ k. up s w k) none
    ∙ (ap (λ n. div_ceil n s) zero
    ∙ omega (arith, div-eq_of_lt {n = 0} {m = s} are.whole, mod-eq_of_lt {n = 0} {m = s} are.whole))
