-- The first of the marked, and who is in an order.
use Rattle.std.proofs.Common.{◌≡◌, ◌≢◌, not, ap, sym, subst, ℕ, ◌+◌, ◌-◌, ◌<◌, ◌≤◌, Bool, true, false, cond}
use Rattle.std.proofs.Common.{List, [], ◌∷◌, length, get_or, Contains, arith, ◌∙◌, inl, inr, zero, suc}
use Rattle.std.proofs.lemmas.List.{get_or_past, get_or_default}
use Rattle.std.proofs.lemmas.Bool.{cases_lt, cases_Bool, eq-eqb, ne_eqb, false≢true}
use Rattle.lot_order.specs.Lots.{IsOrder, first_marked, place_in}
use Rattle.lot_order.specs.Flags.{mark_at}

-- a marked candidate of a list is found in it, or another before it
pub first_marked_found :
    (order : List ℕ) (marks : List Bool) (i : ℕ) → i < length order
    → mark_at marks (get_or order i 0 - 1) ≡ true → ((k : ℕ) → k < length order → 1 ≤ get_or order k 0)
    → 1 ≤ first_marked order marks
first_marked_found [] marks i below marked positive = absurd (omega arith)
first_marked_found (c ∷ order) marks zero below marked positive = rw marked (positive 0 below)
first_marked_found (c ∷ order) marks (suc i) below marked positive =
    elim (mark_at marks (c - 1)) as (λ b. 1 ≤ cond b c (first_marked order marks)) [
      | true ↦ positive 0 (omega arith)
      | false ↦ first_marked_found order marks i (omega arith) marked (λ k h. positive (suc k) (omega (arith, h)))
    ]

-- who is marked has a place in the list
pub marked-below : (marks : List Bool) (p : ℕ) → mark_at marks p ≡ true → p < length marks
marked-below marks p marked =
    elim (cases_lt p (length marks)) [ inl below ↦ below | inr past ↦ absurd (let e = get_or_past marks p false past in cc) ]

-- in an order of all candidates some marked one is found
pub first_marked-order :
    (order : List ℕ) (marks : List Bool) (p : ℕ) → IsOrder order → length marks ≡ length order
    → mark_at marks p ≡ true → 1 ≤ first_marked order marks
first_marked-order order marks p is same marked =
    let inside : p < length order = omega (arith, marked-below marks p marked) in
    let found : Contains order (p + 1) = is.whole (p + 1) (omega arith) (omega arith) in
    let same_item : get_or order found.0 0 ≡ p + 1 = get_or_default order found.0 0 (p + 1) found.1 ∙ found.2 in
    let number : get_or order found.0 0 - 1 ≡ p = rw same_item (omega arith) in
    let chosen : mark_at marks (get_or order found.0 0 - 1) ≡ true = rw number marked in
    first_marked_found order marks found.0 found.1 chosen (λ k h. (is.candidates k h).0)

-- the first of the marked is marked
first_marked-marked :
    (order : List ℕ) (marks : List Bool) (i : ℕ) → i < length order
    → mark_at marks (get_or order i 0 - 1) ≡ true → mark_at marks (first_marked order marks - 1) ≡ true
first_marked-marked [] marks i below marked = absurd (omega arith)
first_marked-marked (x ∷ order) marks zero below marked = rw marked marked
first_marked-marked (x ∷ order) marks (suc i) below marked =
    elim (cases_Bool (mark_at marks (x - 1))) [
      | inl set ↦ rw set set
      | inr unset ↦ rw unset (first_marked-marked order marks i (omega arith) marked)
    ]

place_in-here : (x c : ℕ) (order : List ℕ) → x ≡ c → place_in (x ∷ order) c ≡ 0
place_in-here x c order same = ap (λ b. cond (not b) (1 + place_in order c) 0) (eq-eqb x c same)

place_in-past : (x c : ℕ) (order : List ℕ) → x ≢ c → place_in (x ∷ order) c ≡ 1 + place_in order c
place_in-past x c order other = ap (λ b. cond (not b) (1 + place_in order c) 0) (ne_eqb x c other)

-- who is in front is before each other one
front_before : (x c f : ℕ) (order : List ℕ) → x ≡ f → x ≢ c → place_in (x ∷ order) f < place_in (x ∷ order) c
front_before x c f order same other = omega (arith, place_in-here x f order same, place_in-past x c order other)

-- one before another is so after a third too
behind_both :
    (x a b : ℕ) (order : List ℕ) → x ≢ a → x ≢ b → place_in order a < place_in order b
    → place_in (x ∷ order) a < place_in (x ∷ order) b
behind_both x a b order first second less =
    omega (arith, place_in-past x a order first, place_in-past x b order second, less)

-- each other marked candidate of a list stands after the first of the marked
first_before :
    (order : List ℕ) (marks : List Bool) (c i : ℕ) → i < length order → get_or order i 0 ≡ c
    → mark_at marks (c - 1) ≡ true → c ≢ first_marked order marks
    → place_in order (first_marked order marks) < place_in order c
first_before [] marks c i below at marked other = absurd (omega arith)
first_before (x ∷ order) marks c zero below at marked other =
    let here : mark_at marks (x - 1) ≡ true = ap (λ d. mark_at marks (d - 1)) at ∙ marked in
    absurd (other (sym at ∙ sym (ap (λ b. cond b x (first_marked order marks)) here)))
first_before (x ∷ order) marks c (suc i) below at marked other =
    elim (cases_Bool (mark_at marks (x - 1))) [
      | inl set ↦
          let first : first_marked (x ∷ order) marks ≡ x = ap (λ b. cond b x (first_marked order marks)) set in
          front_before x c (first_marked (x ∷ order) marks) order (sym first) (λ same. other (sym same ∙ sym first))
      | inr unset ↦
          let first : first_marked (x ∷ order) marks ≡ first_marked order marks =
          ap (λ b. cond b x (first_marked order marks)) unset in
          let f : ℕ = first_marked order marks in
          let chosen : mark_at marks (f - 1) ≡ true =
          first_marked-marked order marks i (omega arith) (ap (λ d. mark_at marks (d - 1)) at ∙ marked) in
          let rest : place_in order f < place_in order c =
          first_before order marks c i (omega arith) at marked (λ same. other (same ∙ sym first)) in
          subst (λ (g : ℕ). place_in (x ∷ order) g < place_in (x ∷ order) c) (sym first)
          (behind_both x f c order (unmarked-other marks x f unset chosen) (unmarked-other marks x c unset marked) rest)
    ]
  where
    unmarked-other : (marks : List Bool) (x c : ℕ) → mark_at marks (x - 1) ≡ false → mark_at marks (c - 1) ≡ true → x ≢ c
    unmarked-other marks x c unset set same = false≢true (sym unset ∙ (ap (λ d. mark_at marks (d - 1)) same ∙ set))

pub first_marked-comes_first :
    (order : List ℕ) (marks : List Bool) (c : ℕ) → IsOrder order → length marks ≡ length order → 1 ≤ c
    → mark_at marks (c - 1) ≡ true → c ≢ first_marked order marks
    → place_in order (first_marked order marks) < place_in order c
first_marked-comes_first order marks c is same some marked other =
    let within : c - 1 < length marks = marked-below marks (c - 1) marked in
    let found : Contains order c = is.whole c some (omega arith) in
    first_before order marks c found.0 found.1 (get_or_default order found.0 0 c found.1 ∙ found.2) marked other
