-- The order in which those that have the quota are elected.
use Rattle.std.proofs.Common.{◌≡◌, ℕ, ◌+◌, ◌<◌, true, List, [], ◌∷◌, length, get_or, arith, ap, sym, ◌∙◌, inl}
use Rattle.std.proofs.Common.{inr, zero, suc, ◌⊎◌, ◌==◌, nat_lt, subst}
use Rattle.std.specs.List.{Contains}
use Rattle.std.proofs.lemmas.Bool.{cases_eq, cases_order, and_parts, and_from, eqb-true, eq-eqb, ne_eqb, lt-ltb}
use Rattle.std.proofs.lemmas.List.{get_or_default}
use borrow.Author.Tests.{ltb-true}
use Rattle.lot_order.specs.Lots.{IsOrder, place_in}
use Rattle.meek_rule.specs.Winners.{comes_before}
use Rattle.meek_rule.proofs.TestLemmas.{or_cases, or_left, or_right}
use Rattle.meek_rule.proofs.StrictOrder.{IsStrictOrder}

-- a candidate of an order is at its place
pub place_found : (lots : List ℕ) (c i : ℕ) → i < length lots → get_or lots i 0 ≡ c → get_or lots (place_in lots c) 0 ≡ c
place_found [] c i below at = absurd (omega arith)
place_found (d ∷ lots) c zero below at = rw (eq-eqb d c at) at
place_found (d ∷ lots) c (suc i) below at =
    elim (cases_eq d c) [
      | inl same ↦ rw (eq-eqb d c same) same
      | inr other ↦
          rw (ne_eqb d c other)
          (let next : suc (place_in lots c) ≡ 1 + place_in lots c = omega arith in
          subst (λ (m : ℕ). get_or (d ∷ lots) m 0 ≡ c) next (place_found lots c i (omega arith) at))
    ]

-- two candidates at one place are one
pub place_in-one :
    (lots : List ℕ) (a b : ℕ) → IsOrder lots → a < length lots → b < length lots
    → place_in lots (a + 1) ≡ place_in lots (b + 1) → a ≡ b
place_in-one lots a b order a_below b_below same =
    let at_a : get_or lots (place_in lots (a + 1)) 0 ≡ a + 1 = found a a_below in
    let at_b : get_or lots (place_in lots (b + 1)) 0 ≡ b + 1 = found b b_below in
    let both : a + 1 ≡ b + 1 = sym at_a ∙ (ap (λ k. get_or lots k 0) same ∙ at_b) in
    omega arith
  where
    found : (p : ℕ) → p < length lots → get_or lots (place_in lots (p + 1)) 0 ≡ p + 1
    found p below =
        let has : Contains lots (p + 1) = order.whole (p + 1) (omega arith) (omega arith) in
        place_found lots (p + 1) has.0 has.1 (get_or_default lots has.0 0 (p + 1) has.1 ∙ has.2)

pub before_cases :
    (votes lots : List ℕ) (a b : ℕ) → comes_before votes lots a b ≡ true
    → (get_or votes b 0 < get_or votes a 0)
    ⊎ ((get_or votes a 0 ≡ get_or votes b 0) × (place_in lots (b + 1) < place_in lots (a + 1)))
before_cases votes lots a b is =
    elim (or_cases _ _ is) [
      | inl more ↦ inl (ltb-true _ _ more)
      | inr both ↦
          let parts =
          and_parts (get_or votes a 0 == get_or votes b 0)
          (nat_lt (place_in lots (b + 1)) (place_in lots (a + 1))) both in
          inr (eqb-true _ _ parts.0, ltb-true _ _ parts.1)
    ]

pub before_more : (votes lots : List ℕ) (a b : ℕ) → get_or votes b 0 < get_or votes a 0 → comes_before votes lots a b ≡ true
before_more votes lots a b more = or_left _ _ (lt-ltb _ _ more)

pub before_later :
    (votes lots : List ℕ) (a b : ℕ) → get_or votes a 0 ≡ get_or votes b 0
    → place_in lots (b + 1) < place_in lots (a + 1) → comes_before votes lots a b ≡ true
before_later votes lots a b same later = or_right _ _ (and_from _ _ (eq-eqb _ _ same) (lt-ltb _ _ later))

pub winners_order : (votes lots : List ℕ) → IsOrder lots → IsStrictOrder (length lots) (comes_before votes lots)
winners_order votes lots order = record {
  one_way = λ a b ab ba.
      elim (before_cases votes lots a b ab) [
        | inl x ↦ elim (before_cases votes lots b a ba) [ inl y ↦ omega arith | inr y ↦ omega arith ]
        | inr x ↦ elim (before_cases votes lots b a ba) [ inl y ↦ omega arith | inr y ↦ omega arith ]
      ];
  through = λ a b c ab bc.
      elim (before_cases votes lots a b ab) [
        | inl x ↦
            elim (before_cases votes lots b c bc) [
              | inl y ↦
                  before_more votes lots a c (omega arith)
              | inr y ↦
                  before_more votes lots a c (omega arith)
            ]
        | inr x ↦
            elim (before_cases votes lots b c bc) [
              | inl y ↦
                  before_more votes lots a c (omega arith)
              | inr y ↦
                  before_later votes lots a c (omega arith) (omega arith)
            ]
      ];
  total = λ a b a_below b_below other.
      elim (cases_order (get_or votes a 0) (get_or votes b 0)) [
        | inl same ↦
            elim (cases_order (place_in lots (a + 1)) (place_in lots (b + 1))) [
              | inl one ↦ absurd (other (place_in-one lots a b order a_below b_below one))
              | inr apart ↦
                  elim apart [
                    | inl sooner ↦
                        inr (before_later votes lots b a (sym same) sooner)
                    | inr later ↦
                        inl (before_later votes lots a b same later)
                  ]
            ]
        | inr apart ↦
            elim apart [
              | inl less ↦
                  inr (before_more votes lots b a less)
              | inr more ↦ inl (before_more votes lots a b more)
            ]
      ];
}
