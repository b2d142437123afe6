-- Draws under way, and what holds of a whole draw.
use Rattle.std.proofs.Common.{◌≡◌, ◌≢◌, refl, sym, ap, subst, ◌∙◌, not, ℕ, ◌+◌, ◌-◌, ◌<◌, ◌≤◌, zero, suc}
use Rattle.std.proofs.Common.{Bool, true, eqb, List, [], ◌∷◌, ◌++◌, length, take, get_or, All, Contains}
use Rattle.std.proofs.Common.{arith, inl, inr, length-append, length-take}
use Rattle.std.specs.List.{remove, range_with_len, Any}
use Rattle.std.proofs.Math.Seq.{take-suc, take-append_seam, get_or-append_seam}
use Rattle.std.proofs.lemmas.Bool.{eq-eqb, eqb-true, cases_Bool, cases_lt, cases_order, false≢true}
use Rattle.std.proofs.lemmas.List.{take_all, take-append-le, get_or-take, get_or_append_left, get_or_default}
use Rattle.std.proofs.lemmas.List.Elements.{All-filter, All-get_or, filter_passes}
use Rattle.std.proofs.lemmas.List.Folds.{list_any_at, Any-from_list_any}
use Rattle.std.proofs.lemmas.List.FromFn.{length-range_with_len, get_or-range_with_len}
use Rattle.std.proofs.lemmas.List.Edits.{length-remove}
use Rattle.lot_order.specs.Lots.{IsOrder}
use Rattle.lot_draw.specs.Draw.{IsDraw, drawn_place, is_among, not_drawn}
use Rattle.lot_draw.proofs.Left.{filter-contains, not_drawn-nobody, not_drawn-more}

pub drawn_place-below : (seed : List ℕ) (n : ℕ) → 0 < n → drawn_place seed n < n
unfolding drawn_place
drawn_place-below seed n some = omega arith

-- The order so far is drawn, and these are left.
pub record IsDrawnSoFar (seed : List ℕ) (n : ℕ) (order left : List ℕ) : Type 0 where
  pub left_are : left ≡ not_drawn n order
  pub as_many : length left + length order ≡ n
  pub drawn :
      (k : ℕ) → k < length order
      → get_or order k 0 ≡ get_or (not_drawn n (take k order)) (drawn_place seed (n - k)) 0

pub so_far-nobody : (seed : List ℕ) (n : ℕ) → IsDrawnSoFar seed n [] (range_with_len 1 n)
so_far-nobody seed n = record {
  left_are = sym (not_drawn-nobody n);
  as_many = omega (arith, length-range_with_len 1 n);
  drawn = λ k below. absurd (omega (arith, below));
}

-- the one at the drawn place follows
pub so_far-more :
    (seed : List ℕ) (n : ℕ) (order left : List ℕ) (p : ℕ) → IsDrawnSoFar seed n order left
    → p ≡ drawn_place seed (n - length order) → p < length left
    → IsDrawnSoFar seed n (order ++ get_or left p 0 ∷ []) (remove left p)
so_far-more seed n order left p so_far is below =
    let same = so_far.left_are in
    let x : ℕ = get_or left p 0 in
    record {
      left_are =
          ap (λ (l : List ℕ). remove l p) same
          ∙ sym (not_drawn-more n order p (subst (λ (l : List ℕ). p < length l) same below))
          ∙ ap (λ (l : List ℕ). not_drawn n (order ++ get_or l p 0 ∷ [])) (sym same);
      as_many = omega (arith, so_far.as_many, length-remove left p below, length-append order (x ∷ []));
      drawn = λ k inside. elim (cases_lt k (length order)) [
        | inl before ↦
            get_or_append_left order (x ∷ []) 0 k before ∙ so_far.drawn k before
            ∙ ap (λ (l : List ℕ). get_or (not_drawn n l) (drawn_place seed (n - k)) 0)
            (sym (take-append-le k order (x ∷ []) (omega (arith, before))))
        | inr last ↦
            let here : k ≡ length order = omega (arith, last, inside, length-append order (x ∷ [])) in
            subst (λ (j : ℕ). get_or (order ++ x ∷ []) j 0
            ≡ get_or (not_drawn n (take j (order ++ x ∷ []))) (drawn_place seed (n - j)) 0) (sym here) (
            get_or-append_seam order x [] 0
            ∙ ap (λ (l : List ℕ). get_or l p 0) same
            ∙ ap (λ (q : ℕ). get_or (not_drawn n order) q 0) is
            ∙ ap (λ (l : List ℕ). get_or (not_drawn n l) (drawn_place seed (n - length order)) 0)
            (sym (take-append_seam order (x ∷ [])))
            )
      ];
    }

pub draw-whole :
    (seed : List ℕ) (n : ℕ) (order left : List ℕ) → IsDrawnSoFar seed n order left → length order ≡ n
    → IsDraw seed n order
draw-whole seed n order left so_far all = record {
  everybody = all;
  drawn = λ k below. so_far.drawn k (omega (arith, all, below));
}

-- one less is left after each
left-count :
    (seed : List ℕ) (n : ℕ) (order : List ℕ) → IsDraw seed n order → (k : ℕ) → k ≤ n
    → length (not_drawn n (take k order)) + k ≡ n
left-count seed n order draw zero within = omega (arith, ap length (not_drawn-nobody n), length-range_with_len 1 n)
left-count seed n order draw (suc k) within =
    let front = take k order in
    let left = not_drawn n front in
    let before : length left + k ≡ n = left-count seed n order draw k (omega (arith, within)) in
    let p = drawn_place seed (n - k) in
    let below : p < length left = omega (arith, before, within, drawn_place-below seed (n - k) (omega (arith, within))) in
    let front_is : take (suc k) order ≡ front ++ get_or left p 0 ∷ [] =
    take-suc order k 0 (omega (arith, draw.everybody, within))
    ∙ ap (λ (c : ℕ). front ++ c ∷ []) (draw.drawn k (omega (arith, within))) in
    let next : not_drawn n (take (suc k) order) ≡ remove left p =
    ap (not_drawn n) front_is ∙ not_drawn-more n front p below in
    omega (arith, ap length next, length-remove left p below, before)

-- where a candidate was drawn somebody stood
place-below :
    (seed : List ℕ) (n : ℕ) (order : List ℕ) → IsDraw seed n order → (k : ℕ) → k < n
    → drawn_place seed (n - k) < length (not_drawn n (take k order))
place-below seed n order draw k within =
    omega (
      arith,
      left-count seed n order draw k (omega (arith, within)),
      drawn_place-below seed (n - k) (omega (arith, within)),
      within,
    )

same-fronts :
    (seed : List ℕ) (n : ℕ) (one other : List ℕ) → IsDraw seed n one → IsDraw seed n other → (k : ℕ) → k ≤ n
    → take k one ≡ take k other
same-fronts seed n one other a b zero within = refl
same-fronts seed n one other a b (suc k) within =
    let before : take k one ≡ take k other = same-fronts seed n one other a b k (omega (arith, within)) in
    let inside : k < n = omega (arith, within) in
    let item : get_or one k 0 ≡ get_or other k 0 =
    a.drawn k inside ∙ ap (λ (l : List ℕ). get_or (not_drawn n l) (drawn_place seed (n - k)) 0) before
    ∙ sym (b.drawn k inside) in
    take-suc one k 0 (omega (arith, a.everybody, inside))
    ∙ ap (λ (l : List ℕ). l ++ get_or one k 0 ∷ []) before
    ∙ ap (λ (c : ℕ). take k other ++ c ∷ []) item
    ∙ sym (take-suc other k 0 (omega (arith, b.everybody, inside)))

-- a seed draws one order of so many candidates
pub one-draw : (seed : List ℕ) (n : ℕ) (one other : List ℕ) → IsDraw seed n one → IsDraw seed n other → one ≡ other
one-draw seed n one other a b =
    sym (take_all n one (omega (arith, a.everybody)))
    ∙ same-fronts seed n one other a b n (omega arith)
    ∙ take_all n other (omega (arith, b.everybody))

-- ---- a draw is an order

range-candidates : (n : ℕ) → All (λ c. (1 ≤ c) × (c ≤ n)) (range_with_len 1 n)
range-candidates n k d inside =
    let below : k < n = omega (arith, inside, length-range_with_len 1 n) in
    let is = get_or-range_with_len 1 n k d below in
    (omega (arith, is), omega (arith, is, below))

-- who is drawn is a candidate
drawn-candidate :
    (seed : List ℕ) (n : ℕ) (order : List ℕ) → IsDraw seed n order → (k : ℕ) → k < n
    → (1 ≤ get_or order k 0) × (get_or order k 0 ≤ n)
drawn-candidate seed n order draw k within =
    let P : ℕ → Type 0 = λ c. (1 ≤ c) × (c ≤ n) in
    let test : ℕ → Bool = λ c. not (is_among (take k order) c) in
    subst P (sym (draw.drawn k within))
    (All-get_or P (not_drawn n (take k order)) (drawn_place seed (n - k)) 0
    (place-below seed n order draw k within) (All-filter test P (range_with_len 1 n) (range-candidates n)))

-- who is drawn was not drawn before
drawn-new :
    (seed : List ℕ) (n : ℕ) (order : List ℕ) → IsDraw seed n order → (k : ℕ) → k < n
    → not (is_among (take k order) (get_or order k 0)) ≡ true
drawn-new seed n order draw k within =
    let test : ℕ → Bool = λ c. not (is_among (take k order) c) in
    let P : ℕ → Type 0 = λ c. test c ≡ true in
    subst P (sym (draw.drawn k within))
    (All-get_or P (not_drawn n (take k order)) (drawn_place seed (n - k)) 0
    (place-below seed n order draw k within) (filter_passes test (range_with_len 1 n)))

drawn-apart :
    (seed : List ℕ) (n : ℕ) (order : List ℕ) → IsDraw seed n order → (i j : ℕ) → i < j → j < n
    → get_or order i 0 ≢ get_or order j 0
drawn-apart seed n order draw i j before within same =
    let front = take j order in
    let here : get_or front i 0 ≡ get_or order j 0 = get_or-take j order i 0 before ∙ same in
    let inside : i < length front = simp length-take (omega (arith, before, within, draw.everybody)) in
    let found : is_among front (get_or order j 0) ≡ true =
    list_any_at (λ d. eqb d (get_or order j 0)) front i 0 inside (eq-eqb (get_or front i 0) (get_or order j 0) here) in
    false≢true (sym (ap not found) ∙ drawn-new seed n order draw j within)

-- nobody is left in the end
drawn-whole : (seed : List ℕ) (n : ℕ) (order : List ℕ) → IsDraw seed n order → (c : ℕ) → 1 ≤ c → c ≤ n → Contains order c
drawn-whole seed n order draw c some within =
    elim (cases_Bool (is_among order c)) [
      | inl found ↦
          let any : Any (λ d. eqb d c ≡ true) order = Any-from_list_any (λ d. eqb d c) order found in
          let is : any.1 ≡ c = eqb-true any.1 c any.4 in
          (any.0, any.2, get_or_default order any.0 c any.1 any.2 ∙ any.3 ∙ is)
      | inr missing ↦
          let range = range_with_len 1 n in
          let below : c - 1 < n = omega (arith, some, within) in
          let is : get_or range (c - 1) 0 ≡ c = get_or-range_with_len 1 n (c - 1) 0 below ∙ omega (arith, some) in
          let passes : not (is_among order (get_or range (c - 1) 0)) ≡ true =
          ap (λ (d : ℕ). not (is_among order d)) is ∙ ap not missing in
          let left =
          filter-contains (λ d. not (is_among order d)) range (c - 1)
          (omega (arith, below, length-range_with_len 1 n)) passes in
          let none = left-count seed n order draw n (omega arith) in
          let whole = ap (λ (l : List ℕ). length (not_drawn n l)) (take_all n order (omega (arith, draw.everybody))) in
          absurd (omega (arith, left, none, whole))
    ]

-- what is drawn is an order of lots
pub draw-order : (seed : List ℕ) (n : ℕ) (order : List ℕ) → n ≤ 250 → IsDraw seed n order → IsOrder order
draw-order seed n order few draw =
    let all = draw.everybody in
    record {
      few = omega (arith, few, all);
      candidates =
          λ i below. (let is =
          drawn-candidate seed n order draw i (omega (arith, all, below)) in
          (is.0, omega (arith, is.1, all)));
      different = λ i j here there same. elim (cases_order i j) [
        | inl equal ↦ equal
        | inr (inl less) ↦ absurd (drawn-apart seed n order draw i j less (omega (arith, all, there)) same)
        | inr (inr more) ↦ absurd (drawn-apart seed n order draw j i more (omega (arith, all, here)) (sym same))
      ];
      whole = λ c some within. drawn-whole seed n order draw c some (omega (arith, within, all));
    }
