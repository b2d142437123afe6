-- Sums and lists of the candidates who run, under other numbers.
use Rattle.std.proofs.Common.{◌≡◌, ◌≢◌, ℕ, ◌+◌, ◌-◌, ◌<◌, ◌≤◌, ◌==◌, Bool, true, false, cond, List, length}
use Rattle.std.proofs.Common.{get_or, set, replicate, sum, count_by, arith, refl, ap, sym, ◌∙◌, zero, suc}
use Rattle.std.proofs.Common.{inl, inr}
use Rattle.std.proofs.lemmas.Bool.{cases_Bool, cases_eq, eq-eqb, ne_eqb}
use Rattle.std.proofs.lemmas.List.FromFn.{get_or-map-range_with_len, length-map-range_with_len, fill_by_all}
use Rattle.std.proofs.lemmas.Grind.{get_or-set_at}
use Rattle.std.proofs.lemmas.List.{get_or-set_other, get_or-replicate, length-set, length-replicate}
use Rattle.candidate_roll.specs.State.{state_at}
use Rattle.candidate_roll.specs.declared.state.State.{State}
use Rattle.candidate_roll.specs.declared.state.State.TheVariants.{Withdrawn}
use Rattle.lot_order.specs.Flags.{mark_at}
use Rattle.meek_rule.specs.Places.{each_place, count_places, marked_count}
use Rattle.meek_rule.proofs.StateCounts.{marks_by_place}
use Rattle.rule_laws.specs.Renaming.{renamed}
use Rattle.rule_laws.proofs.Totals.{count-total, count_by-total, list-total, one_if, states-total, sum-total}
use Rattle.rule_laws.proofs.Totals.{total, total-add, total-but_one, total-none, total-part, total-same}

-- Those of candidates 1 to `old` who run get the numbers 1 to `new` by `to`, and their own back by `from`.
pub record Numbering : Type 0 where
  pub old : ℕ
  pub new : ℕ
  pub runs : ℕ → Bool
  pub to : ℕ → ℕ
  pub from : ℕ → ℕ
  pub to_candidate : (c : ℕ) → 1 ≤ c → c ≤ old → runs c ≡ true → (1 ≤ to c) × (to c ≤ new)
  pub from_candidate : (c : ℕ) → 1 ≤ c → c ≤ new → (1 ≤ from c) × (from c ≤ old)
  pub from_runs : (c : ℕ) → 1 ≤ c → c ≤ new → runs (from c) ≡ true
  pub there : (c : ℕ) → 1 ≤ c → c ≤ new → to (from c) ≡ c
  pub back : (c : ℕ) → 1 ≤ c → c ≤ old → runs c ≡ true → from (to c) ≡ c

-- the place of the candidate that a place's candidate was, or will be
abbrev pub place_by : (ℕ → ℕ) → ℕ → ℕ
place_by f p = f (p + 1) - 1

-- the items of those who run, by their new numbers
abbrev pub moved : {X : Type 0} → Numbering → (d : X) → List X → List X
moved by d items = renamed by.new by.from d items

-- who does not run has no more than who does not stand at all
abbrev pub AreOut : {X : Type 0} → Numbering → (d : X) → List X → Type 0
AreOut by d items = (p : ℕ) → p < by.old → by.runs (p + 1) ≡ false → get_or items p d ≡ d

-- sums of sums can be exchanged
total-swap : (n m : ℕ) (f : ℕ → ℕ → ℕ) → total n (λ p. total m (f p)) ≡ total m (λ q. total n (λ p. f p q))
total-swap zero m f = sym (total-none m (λ q. 0) (λ q below. refl))
total-swap (suc n) m f =
    let before : total n (λ p. total m (f p)) ≡ total m (λ q. total n (λ p. f p q)) = total-swap n m f in
    let both :
    total m (λ q. total n (λ p. f p q) + f n q)
    ≡ total m (λ q. total n (λ p. f p q)) + total m (f n) =
    total-add m (λ q. total n (λ p. f p q)) (f n) in
    omega arith

-- a sum of which one place alone counts
total-one : (n p : ℕ) (f : ℕ → ℕ) → p < n → ((q : ℕ) → q < n → q ≢ p → f q ≡ 0) → total n f ≡ f p
total-one n p f below others =
    let most : total n f ≤ total n (λ q. 0) + f p =
    total-but_one n p f (λ q. 0) (λ q inside other. let none = others q inside other in omega arith) in
    let nothing : total n (λ (q : ℕ). 0) ≡ 0 = total-none n (λ q. 0) (λ q inside. refl) in
    let least = total-part n p f below in
    omega arith

nothing_either : (t : Bool) (k : ℕ) → k ≡ 0 → cond t k 0 ≡ 0
nothing_either true k none = none
nothing_either false k none = refl

-- lists with the same items at all places are the same
pub same_items :
    {X : Type 0} (n : ℕ) (d : X) (xs ys : List X) → length xs ≡ n → length ys ≡ n
    → ((p : ℕ) → p < n → get_or xs p d ≡ get_or ys p d) → xs ≡ ys
same_items n d xs ys long as_long at =
    fill_by_all (λ p. get_or ys p d) xs n d long at
    ∙ sym (fill_by_all (λ p. get_or ys p d) ys n d as_long (λ p below. refl))

module _ (by : Numbering) where
  pub place_inside : (p : ℕ) → p < by.new
      → (place_by by.from p < by.old) × (place_by by.from p + 1 ≡ by.from (p + 1))
  place_inside p below =
      let number = by.from_candidate (p + 1) (omega arith) (omega arith) in
      (omega arith, omega arith)

  pub place_back : (p : ℕ) → p < by.new → place_by by.to (place_by by.from p) ≡ p
  place_back p below =
      let inside = place_inside p below in
      let at : by.to (place_by by.from p + 1) ≡ by.to (by.from (p + 1)) = ap by.to inside.1 in
      let same : by.to (by.from (p + 1)) ≡ p + 1 = by.there (p + 1) (omega arith) (omega arith) in
      omega arith

  -- the new place of a candidate who runs
  pub new_place :
      (c : ℕ) → 1 ≤ c → c ≤ by.old → by.runs c ≡ true
      → (by.to c - 1 < by.new) × (place_by by.from (by.to c - 1) ≡ c - 1)
  new_place c some within runs =
      let number = by.to_candidate c some within runs in
      let place : by.to c - 1 + 1 ≡ by.to c = omega arith in
      let at : by.from (by.to c - 1 + 1) ≡ c = ap by.from place ∙ by.back c some within runs in
      (omega arith, omega arith)

  -- and the same by its old place
  pub place_there :
      (q : ℕ) → q < by.old → by.runs (q + 1) ≡ true
      → (place_by by.to q < by.new) × (place_by by.from (place_by by.to q) ≡ q)
  place_there q below runs =
      let place = new_place (q + 1) (omega arith) (omega arith) runs in
      (place.0, omega (arith, place.1))

  -- a sum is the same under new numbers, where nobody counts who does not run
  pub total-moved :
      (f : ℕ → ℕ) → ((p : ℕ) → p < by.old → by.runs (p + 1) ≡ false → f p ≡ 0)
      → total by.new (λ p. f (place_by by.from p)) ≡ total by.old f
  total-moved f none =
      let pair : ℕ → ℕ → ℕ = λ p q. cond (q == place_by by.from p) (f q) 0 in
      let by_new : total by.new (λ p. total by.old (pair p)) ≡ total by.new (λ p. f (place_by by.from p)) =
      total-same by.new (λ p. total by.old (pair p)) (λ p. f (place_by by.from p)) (λ p below.
      total-one by.old (place_by by.from p) (pair p) (place_inside p below).0
      (λ q inside other. ap (λ (b : Bool). cond b (f q) 0) (ne_eqb q (place_by by.from p) other))
      ∙ ap (λ (b : Bool). cond b (f (place_by by.from p)) 0)
      (eq-eqb (place_by by.from p) (place_by by.from p) refl)) in
      let by_old : total by.old (λ q. total by.new (λ p. pair p q)) ≡ total by.old f =
      total-same by.old (λ q. total by.new (λ p. pair p q)) f (λ q below.
      elim (cases_Bool (by.runs (q + 1))) [
        | inl runs ↦
            let there = place_there q below runs in
            total-one by.new (place_by by.to q) (λ p. pair p q) there.0 (λ p within other.
            ap (λ (b : Bool). cond b (f q) 0) (ne_eqb q (place_by by.from p) (λ same.
            other (sym (place_back p within) ∙ ap (place_by by.to) (sym same)))))
            ∙ ap (λ (b : Bool). cond b (f q) 0)
            (eq-eqb q (place_by by.from (place_by by.to q)) (sym there.1))
        | inr out ↦
            let nothing : f q ≡ 0 = none q below out in
            total-none by.new (λ p. pair p q)
            (λ p inside. nothing_either (q == place_by by.from p) (f q) nothing)
            ∙ sym nothing
      ]) in
      sym by_new ∙ (total-swap by.new by.old pair ∙ by_old)

  -- LISTS

  pub moved-at : {X : Type 0} (d : X) (items : List X) (p : ℕ) → p < by.new
      → get_or (moved by d items) p d ≡ get_or items (place_by by.from p) d
  moved-at d items p below =
      get_or-map-range_with_len (λ q. get_or items (place_by by.from q) d) 0 by.new p p d below (omega arith)

  pub moved-length : {X : Type 0} (d : X) (items : List X) → length (moved by d items) ≡ by.new
  moved-length d items = length-map-range_with_len (λ q. get_or items (place_by by.from q) d) 0 by.new

  -- a list by places, under new numbers
  pub moved-places : {X : Type 0} (d : X) (f g : ℕ → X) (n k : ℕ) → n ≡ by.old → k ≡ by.new
      → ((p : ℕ) → p < by.new → f (place_by by.from p) ≡ g p) → moved by d (each_place n f) ≡ each_place k g
  moved-places d f g n k all as_many same =
      ap (λ (m : ℕ). moved by d (each_place m f)) all
      ∙ (fill_by_all g (moved by d (each_place by.old f)) by.new d (moved-length d (each_place by.old f))
      (λ p below.
      moved-at d (each_place by.old f) p below
      ∙ (get_or-map-range_with_len f 0 by.old (place_by by.from p) (place_by by.from p) d
      (place_inside p below).0 (omega arith) ∙ same p below))
      ∙ ap (λ (m : ℕ). each_place m g) (sym as_many))

  pub sum-moved : (xs : List ℕ) → AreOut by 0 xs → length xs ≡ by.old → sum (moved by 0 xs) ≡ sum xs
  sum-moved xs out long =
      sum-total by.new (λ p. get_or xs (place_by by.from p) 0)
      ∙ (total-moved (λ p. get_or xs p 0) out ∙ sym (list-total xs by.old long))

  pub states-moved :
      (test : State → Bool) (states : List State) → test Withdrawn ≡ false → AreOut by Withdrawn states
      → length states ≡ by.old → count_by test (moved by Withdrawn states) ≡ count_by test states
  states-moved test states none out long =
      count_by-total test (λ p. state_at states (place_by by.from p)) by.new
      ∙ (total-moved (λ p. one_if (test (state_at states p)))
      (λ p below apart. ap (λ (x : State). one_if (test x)) (out p below apart) ∙ ap one_if none)
      ∙ (ap (λ (k : ℕ). total k (λ p. one_if (test (state_at states p)))) (sym long)
      ∙ sym (states-total test states)))

  pub count-moved :
      (test other : ℕ → Bool) → ((p : ℕ) → p < by.old → by.runs (p + 1) ≡ false → test p ≡ false)
      → ((p : ℕ) → p < by.new → other p ≡ test (place_by by.from p))
      → count_places by.new other ≡ count_places by.old test
  count-moved test other out same =
      count-total by.new other
      ∙ (total-same by.new (λ p. one_if (other p)) (λ p. one_if (test (place_by by.from p)))
      (λ p below. ap one_if (same p below))
      ∙ (total-moved (λ p. one_if (test p)) (λ p below apart. ap one_if (out p below apart))
      ∙ sym (count-total by.old test)))

  pub marked-moved : (marks : List Bool) → AreOut by false marks → length marks ≡ by.old
      → marked_count (moved by false marks) ≡ marked_count marks
  marked-moved marks out long =
      count-moved (mark_at marks) (λ p. mark_at marks (place_by by.from p)) out (λ p below. refl)
      ∙ ap marked_count (sym (marks_by_place marks by.old long))

  pub nobody-moved : (n k : ℕ) → n ≡ by.old → k ≡ by.new
      → moved by false (replicate n false) ≡ replicate k false
  nobody-moved n k all as_many =
      same_items by.new false (moved by false (replicate n false)) (replicate k false)
      (moved-length false (replicate n false))
      (length-replicate k false ∙ as_many) (λ p below.
      moved-at false (replicate n false) p below
      ∙ (get_or-replicate n (place_by by.from p) false false
      (let inside = (place_inside p below).0 in omega arith)
      ∙ sym (get_or-replicate k p false false (omega arith))))

  pub set-moved :
      {X : Type 0} (d y : X) (xs : List X) (c : ℕ) → length xs ≡ by.old → 1 ≤ c → c ≤ by.old
      → by.runs c ≡ true
      → moved by d (set xs (c - 1) y) ≡ set (moved by d xs) (by.to c - 1) y
  set-moved d y xs c long some within runs =
      let place = new_place c some within runs in
      let as_long : length (moved by d xs) ≡ by.new = moved-length d xs in
      same_items by.new d (moved by d (set xs (c - 1) y)) (set (moved by d xs) (by.to c - 1) y)
      (moved-length d (set xs (c - 1) y))
      (length-set (moved by d xs) (by.to c - 1) y ∙ as_long) (λ p below.
      let left : get_or (moved by d (set xs (c - 1) y)) p d
      ≡ get_or (set xs (c - 1) y) (place_by by.from p) d =
      moved-at d (set xs (c - 1) y) p below in
      elim (cases_eq p (by.to c - 1)) [
        | inl same ↦
            left ∙ (get_or-set_at xs (c - 1) (place_by by.from p) y d (ap (place_by by.from) same ∙ place.1)
            (omega arith)
            ∙ sym (get_or-set_at (moved by d xs) (by.to c - 1) p y d same (omega arith)))
        | inr other ↦
            let apart : place_by by.from p ≢ c - 1 = λ e.
            other
            (let old = place_inside p below in
            let number : by.from (p + 1) ≡ c = omega arith in
            let new : p + 1 ≡ by.to c =
            sym (by.there (p + 1) (omega arith) (omega arith)) ∙ ap by.to number in
            omega arith) in
            left ∙ (get_or-set_other xs (c - 1) (place_by by.from p) y d apart
            ∙ (sym (moved-at d xs p below)
            ∙ sym (get_or-set_other (moved by d xs) (by.to c - 1) p y d other)))
      ])
