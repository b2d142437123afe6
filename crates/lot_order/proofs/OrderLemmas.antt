-- An order that is marked place by place.
use Rattle.std.proofs.Common.{◌≡◌, ◌≢◌, ℕ, ◌+◌, ◌-◌, ◌<◌, ◌≤◌, Bool, true, false, List, [], ◌∷◌, ◌++◌, length}
use Rattle.std.proofs.Common.{get_or, set, take, replicate, All, Contains, cond, arith, refl, ap, sym, subst}
use Rattle.std.proofs.Common.{mul-zero, ◌∙◌, inl, inr}
use Rattle.std.specs.List.{count_by}
use Rattle.std.proofs.lemmas.List.{get_or-replicate, take_more, length-set, length-append, length-replicate}
use Rattle.std.proofs.lemmas.List.{get_or-set_other}
use Rattle.std.proofs.lemmas.List.Elements.{All-more, All-head, All-tail, Contains-push, Contains-push_cases}
use Rattle.std.proofs.lemmas.List.Elements.{Contains-append_left, Contains-get_or}
use Rattle.std.proofs.lemmas.List.Quantifiers.{all_pairs_push}
use Rattle.std.proofs.lemmas.List.Sums.{sum_by-set, sum_by-cons}
use Rattle.std.proofs.lemmas.List.Folds.{sum_by-replicate}
use Rattle.std.proofs.lemmas.Grind.{get_or-set_at}
use Rattle.std.proofs.lemmas.Bool.{cases_order}
use Rattle.std.proofs.lemmas.Bool.Decides.{eqb_tells}
use Rattle.lot_order.specs.Flags.{mark_at}
use Rattle.lot_order.specs.Lots.{IsOrder, AreLots, Sees, IsFirstUnmarked, IsFirstMissing}

-- one more candidate, who didn't stand before
pub AreLots-more :
    (n : ℕ) (order : List ℕ) (i : ℕ) → AreLots n (take i order) → i < length order → 1 ≤ get_or order i 0
    → get_or order i 0 ≤ n → ¬ (Contains (take i order) (get_or order i 0)) → AreLots n (take (i + 1) order)
AreLots-more n order i sound below some few new = record {
  numbers = All-more (λ (c : ℕ). (1 ≤ c) × (c ≤ n)) order i 0 below sound.numbers (some, few);
  different =
      rw (take_more order i 0 below) (all_pairs_push (λ (a b : ℕ). a ≢ b) (take i order) (get_or order i 0)
      sound.different (λ k d inside same. new
      (subst (Contains (take i order)) same (Contains-get_or (take i order) k d inside))));
}

-- who is in an order that grows by c, other than c, stood in it before
stood_before : (order : List ℕ) (c d : ℕ) → c ≢ d → Contains (order ++ c ∷ []) d → Contains order d
stood_before order c d other found =
    elim (Contains-push_cases order c d found) [ inl before ↦ before | inr here ↦ absurd (other here) ]

-- the mark of one more candidate is set
pub Sees-more :
    (marks : List Bool) (order : List ℕ) (c : ℕ) → Sees marks order → 1 ≤ c → c ≤ length marks
    → mark_at marks (c - 1) ≡ false → Sees (set marks (c - 1) true) (order ++ c ∷ [])
Sees-more marks order c sees some few unmarked =
    let same : length (set marks (c - 1) true) ≡ length marks = length-set marks (c - 1) true in
    record {
      marked = λ p below marked. elim (eqb_tells c (p + 1)) [
        | inl here ↦ subst (Contains (order ++ c ∷ [])) here.1 (Contains-push order c)
        | inr other ↦
            Contains-append_left order (c ∷ []) (p + 1) (sees.marked p (omega arith)
            (sym (get_or-set_other marks (c - 1) p true false (λ e. other.1 (omega (arith, e))))
            ∙ marked))
      ];
      unmarked = λ p below no_mark found. elim (eqb_tells c (p + 1)) [
        | inl here ↦ (let e = get_or-set_at marks (c - 1) p true false (omega (arith, here.1)) (omega arith) in cc)
        | inr other ↦
            sees.unmarked p (omega arith)
            (sym (get_or-set_other marks (c - 1) p true false (λ e. other.1 (omega (arith, e)))) ∙ no_mark)
            (stood_before order c (p + 1) other.1 found)
      ];
      as_many =
          let raised :
          count_by (λ (mark : Bool). mark) (set marks (c - 1) true) + cond (mark_at marks (c - 1)) 1 0
          ≡ count_by (λ (mark : Bool). mark) marks + 1 =
          sum_by-set (λ (mark : Bool). cond mark 1 0) marks (c - 1) true false (omega arith) in
          let was : cond (mark_at marks (c - 1)) 1 0 ≡ 0 = ap (λ (b : Bool). let one : ℕ = cond b 1 0 in one) unmarked in
          omega (arith, sees.as_many, length-append order (c ∷ []));
    }

-- what a mark counts
abbrev one_if : Bool → ℕ
one_if mark = cond mark 1 0

-- all marks are set: they are as many as the list is long
count_all : (marks : List Bool) → All (λ mark. mark ≡ true) marks → count_by (λ mark. mark) marks ≡ length marks
count_all [] all = refl
count_all (mark ∷ marks) all =
    let set_mark : mark ≡ true = All-head (λ (m : Bool). m ≡ true) mark marks all in
    let one : one_if mark ≡ 1 = ap one_if set_mark in
    omega (arith, sum_by-cons one_if mark marks, count_all marks (All-tail (λ (m : Bool). m ≡ true) mark marks all))

-- all marks are set: the order is whole
pub order-whole :
    (n : ℕ) (marks : List Bool) (order : List ℕ) → n ≤ 250 → length marks ≡ n → AreLots n order
    → Sees marks order → All (λ mark. mark ≡ true) marks → IsOrder order × (length order ≡ n)
order-whole n marks order few same sound sees all =
    let length_is : length order ≡ n = omega (arith, sees.as_many, count_all marks all) in (
      record {
        few = omega arith;
        candidates = λ i below. (let is = sound.numbers i 0 below in (is.0, omega arith));
        different = λ i j here there equal. elim (cases_order i j) [
          | inl same ↦ same
          | inr (inl less) ↦ absurd (sound.different i j 0 less there equal)
          | inr (inr more) ↦ absurd (sound.different j i 0 more here (sym equal))
        ];
        whole = λ c some within.
            let number : c - 1 + 1 ≡ c = omega arith in
            let inside : c - 1 < length marks = omega arith in
            subst (Contains order) number (sees.marked (c - 1) inside (all (c - 1) false inside));
      },
      length_is,
    )

-- one mark isn't set: its candidate is missing
pub first_missing :
    (n : ℕ) (marks : List Bool) (order : List ℕ) (c : ℕ) → length marks ≡ n → AreLots n order
    → Sees marks order → IsFirstUnmarked marks c → IsFirstMissing n order c
first_missing n marks order c same sound sees first =
    let number : c - 1 + 1 ≡ c = omega (arith, first.candidate) in
    record {
      sound = sound;
      candidate = (omega (arith, first.candidate), omega (arith, first.candidate));
      missing =
          λ found. sees.unmarked (c - 1) (omega (arith, first.candidate)) first.unmarked
          (subst (Contains order) (sym number) found);
      lesser = λ d some below.
          let number : d - 1 + 1 ≡ d = omega arith in
          subst (Contains order) number
          (sees.marked (d - 1) (omega (arith, first.candidate)) (first.lesser (d - 1) (omega arith)));
    }
