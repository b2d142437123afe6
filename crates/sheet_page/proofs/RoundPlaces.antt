-- Stretches of iterations with one round number.
use Rattle.std.proofs.Common.{◌≡◌, ◌≢◌, ◌∙◌, refl, sym, ap, ℕ, zero, suc, ◌+◌, ◌-◌, ◌<◌, ◌≤◌, ◌&&◌, List, length}
use Rattle.std.proofs.Common.{Bool, true, false, ◌++◌, [], get_or, arith, eq-eqb, ne_eqb, eqb-true, inl, inr}
use Rattle.std.specs.List.{flat_map, list_all, range_with_len}
use Rattle.std.proofs.lemmas.Bool.Decides.{eqb_tells}
use Rattle.std.proofs.lemmas.List.{get_or_default}
use Rattle.std.proofs.lemmas.List.Folds.{list_all_at}
use Rattle.std.proofs.lemmas.List.FromFn.{length-range_with_len, get_or-range_with_len}
use Rattle.meek_rule.specs.Row.{Row, blank}
use Rattle.sheet_minutes.specs.Rounds.{row_at}
use Rattle.sheet_page.specs.Values.{all_places}
use Rattle.sheet_page.specs.Stretches.{have_one_number, is_of_round}

-- a test of all places of a range
all_of :
    (p : ℕ → Bool) (a n : ℕ) → ((k : ℕ) → a ≤ k → k < a + n → p k ≡ true)
    → list_all p (range_with_len a n) ≡ true
all_of p a zero are = refl
all_of p a (suc n) are =
    let here : p a ≡ true = are a (omega arith) (omega arith) in
    let rest = all_of p (a + 1) n (λ k from to. are k (omega arith) (omega arith)) in
    ap (λ (b : Bool). b && list_all p (range_with_len (a + 1) n)) here ∙ rest

one_fails :
    (p : ℕ → Bool) (a n k : ℕ) → a ≤ k → k < a + n → p k ≡ false → list_all p (range_with_len a n) ≡ false
one_fails p a n k from to fails =
    let at = get_or-range_with_len a n (k - a) 0 (omega arith) in
    let is : a + (k - a) ≡ k = omega arith in
    list_all_at p (range_with_len a n) (k - a) 0 (omega (arith, length-range_with_len a n)) (ap p (at ∙ is) ∙ fails)

module _ (rows : List Row) (last : ℕ) where
  -- an iteration from which on all have the last one's number
  pub is_of :
      (i : ℕ) → i ≤ last → ((k : ℕ) → i ≤ k → k ≤ last → have_one_number rows k last ≡ true)
      → is_of_round rows last i ≡ true
  is_of i below are =
      all_of (λ k. have_one_number rows k last) i (last + 1 - i) (λ k from to. are k from (omega arith))

  -- an iteration from which on one has another number
  pub is_before :
      (i k : ℕ) → i ≤ k → k ≤ last → have_one_number rows k last ≡ false → is_of_round rows last i ≡ false
  is_before i k from to other =
      one_fails (λ j. have_one_number rows j last) i (last + 1 - i) k from (omega arith) other

  pub number_of : (i : ℕ) → i ≤ last → is_of_round rows last i ≡ true → (row_at rows i).round ≡ (row_at rows last).round
  number_of i below is = eqb-true _ _ (either (have_one_number rows i last) refl)
    where
      either : (b : Bool) → have_one_number rows i last ≡ b → have_one_number rows i last ≡ true
      either true same = same
      either false other = let before = is_before i i (omega arith) below other in cc

  -- a search from the last one back
  pub at_last : (k : ℕ) → last ≤ k → k ≤ last → have_one_number rows k last ≡ true
  at_last k from to =
      let e : k ≡ last = omega arith in
      eq-eqb _ _ (ap (λ (j : ℕ). (row_at rows j).round) e)

  pub one_more :
      (i : ℕ) → have_one_number rows (i - 1) last ≡ true
      → ((k : ℕ) → i ≤ k → k ≤ last → have_one_number rows k last ≡ true)
      → (k : ℕ) → i - 1 ≤ k → k ≤ last → have_one_number rows k last ≡ true
  one_more i here are k from to =
      elim (eqb_tells k (i - 1)) [
        | inl e ↦ ap (λ (j : ℕ). have_one_number rows j last) e.1 ∙ here
        | inr e ↦ are k (omega (arith, e.1)) to
      ]

-- ---- iterations that were read

pub round_read :
    (rows : List Row) (i : ℕ) (row : Row) → row ≡ get_or rows i row → i < length rows
    → row.round ≡ (row_at rows i).round
round_read rows i row is below = ap (λ (r : Row). r.round) (is ∙ get_or_default rows i row (blank 0) below)

pub one_number :
    (rows : List Row) (i j a b : ℕ) → a ≡ (row_at rows i).round → b ≡ (row_at rows j).round → a ≡ b
    → have_one_number rows i j ≡ true
one_number rows i j a b one other same = eq-eqb _ _ (sym one ∙ same ∙ other)

pub two_numbers :
    (rows : List Row) (i j a b : ℕ) → a ≡ (row_at rows i).round → b ≡ (row_at rows j).round → a ≢ b
    → have_one_number rows i j ≡ false
two_numbers rows i j a b one other differ = ne_eqb _ _ (λ e. differ (one ∙ e ∙ sym other))

-- ---- places that have nothing

pub nothing_before : (g : ℕ → List ℕ) (n : ℕ) → ((i : ℕ) → i < n → g i ≡ []) → flat_map g (all_places n) ≡ []
nothing_before g n none = nowhere 0 n (λ i low high. none i (omega arith))
  where
    nowhere : (a m : ℕ) → ((i : ℕ) → a ≤ i → i < a + m → g i ≡ []) → flat_map g (range_with_len a m) ≡ []
    nowhere a zero none = refl
    nowhere a (suc m) none =
        ap (λ (l : List ℕ). l ++ flat_map g (range_with_len (a + 1) m)) (none a (omega arith) (omega arith))
        ∙ nowhere (a + 1) m (λ i low high. none i (omega arith) (omega arith))
