-- The iterations of all rounds, round by round, are all iterations.
use Rattle.std.proofs.Common.{◌≡◌, ◌∙◌, refl, sym, ap, subst, ℕ, ◌+◌, ◌-◌, ◌<◌, ◌≤◌, ◌||◌, not, Bool, true, false, zero, suc}
use Rattle.std.proofs.Common.{List, [], ◌++◌, length, append-nil, append_assoc, inl, inr, eq-eqb, ne_eqb, eqb-true, arith}
use Rattle.std.specs.Prelude.{if◌then◌else◌, nat_eq}
use Rattle.std.specs.List.{flat_map, range_with_len}
use Rattle.std.proofs.lemmas.Bool.{cases_Bool}
use Rattle.std.proofs.lemmas.Bool.Decides.{eqb_tells}
use Rattle.meek_rule.specs.Row.{Row}
use Rattle.sheet_minutes.specs.Rounds.{ends_round, row_at}
use Rattle.sheet_page.specs.Stretches.{is_of_round}
use Rattle.sheet_page.specs.Values.{all_places}
use Rattle.sheet_page.proofs.RoundPlaces.{is_of, is_before}

-- ---- ranges

module _ {X : Type 0} where
  -- what is in a range, and in the range after it
  in_two : (f : ℕ → List X) (a n m : ℕ)
      → flat_map f (range_with_len a (n + m)) ≡ flat_map f (range_with_len a n) ++ flat_map f (range_with_len (a + n) m)
  in_two f a zero m =
      let none : 0 + m ≡ m = omega arith in
      let same : a ≡ a + 0 = omega arith in
      ap (λ k. flat_map f (range_with_len a k)) none ∙ ap (λ k. flat_map f (range_with_len k m)) same
  in_two f a (suc n) m =
      let more : suc n + m ≡ suc (n + m) = omega arith in
      let next : a + 1 + n ≡ a + suc n = omega arith in
      ap (λ k. flat_map f (range_with_len a k)) more
      ∙ ap (λ l. f a ++ l) (in_two f (a + 1) n m)
      ∙ sym (append_assoc (f a) (flat_map f (range_with_len (a + 1) n)) (flat_map f (range_with_len (a + 1 + n) m)))
      ∙ ap (λ k. flat_map f (range_with_len a (suc n)) ++ flat_map f (range_with_len k m)) next

  one_more : (f : ℕ → List X) (n : ℕ) → flat_map f (all_places (n + 1)) ≡ flat_map f (all_places n) ++ f n
  one_more f n =
      let at : 0 + n ≡ n = omega arith in
      in_two f 0 n 1
      ∙ ap (λ k. flat_map f (all_places n) ++ (f k ++ [])) at
      ∙ ap (λ l. flat_map f (all_places n) ++ l) (append-nil (f n))

  alike : (f g : ℕ → List X) (a n : ℕ) → ((i : ℕ) → a ≤ i → i < a + n → f i ≡ g i)
      → flat_map f (range_with_len a n) ≡ flat_map g (range_with_len a n)
  alike f g a zero same = refl
  alike f g a (suc n) same =
      ap (λ l. l ++ flat_map f (range_with_len (a + 1) n)) (same a (omega arith) (omega arith))
      ∙ ap (λ l. g a ++ l) (alike f g (a + 1) n (λ i low high. same i (omega (arith, low)) (omega (arith, high))))

  none_in : (f : ℕ → List X) (a n : ℕ) → ((i : ℕ) → a ≤ i → i < a + n → f i ≡ []) → flat_map f (range_with_len a n) ≡ []
  none_in f a zero none = refl
  none_in f a (suc n) none =
      ap (λ l. l ++ flat_map f (range_with_len (a + 1) n)) (none a (omega arith) (omega arith))
      ∙ none_in f (a + 1) n (λ i low high. none i (omega (arith, low)) (omega (arith, high)))

-- ---- rounds

module _ {X : Type 0} (rows : List Row) (f : ℕ → List X) where
  -- what the iterations of the round that ends at a place have
  abbrev pub of_round : (last : ℕ) → List X
  of_round last = flat_map (λ i. if is_of_round rows last i then f i else []) (all_places (last + 1))

  abbrev pub at_last : (i : ℕ) → List X
  at_last i = if ends_round rows i then of_round i else []

  -- The rounds before a place, up to where the round there begins: from there on no round has ended, and its first
  -- iteration is the first of all, or has another number than the one before.
  record IsCut (start k : ℕ) : Type 0 where
    before : start ≤ k
    open_from : (i : ℕ) → start ≤ i → i < k → ends_round rows i ≡ false
    begins : (i : ℕ) → i + 1 ≡ start → ends_round rows i ≡ true
    said : flat_map at_last (all_places k) ≡ flat_map f (all_places start)

  one_number :
      (i : ℕ) → i + 1 < length rows → ends_round rows i ≡ false
      → (row_at rows i).round ≡ (row_at rows (i + 1)).round
  one_number i within goes_on =
      eqb-true _ _ (by (nat_eq (i + 1) (length rows)) (nat_eq (row_at rows i).round (row_at rows (i + 1)).round) goes_on)
    where
      by : (a b : Bool) → (a || not b) ≡ false → b ≡ true
      by true b is = cc
      by false true is = refl
      by false false is = cc

  other_number : (i : ℕ) → i + 1 < length rows → ends_round rows i ≡ true
      → nat_eq (row_at rows i).round (row_at rows (i + 1)).round ≡ false
  other_number i within ends =
      by (nat_eq (i + 1) (length rows)) (nat_eq (row_at rows i).round (row_at rows (i + 1)).round)
      (ne_eqb (i + 1) (length rows) (λ e. omega (arith, e, within))) ends
    where
      by : (a b : Bool) → a ≡ false → (a || not b) ≡ true → b ≡ false
      by true b past is = cc
      by false true past is = cc
      by false false past is = refl

  -- from the start of a round on all have its number
  numbers : (start k n : ℕ) → ((i : ℕ) → start ≤ i → i < k → ends_round rows i ≡ false) → k < length rows
      → (i : ℕ) → start ≤ i → i + n ≡ k → (row_at rows i).round ≡ (row_at rows k).round
  numbers start k zero goes_on within i low is =
      let e : i ≡ k = omega (arith, is) in
      ap (λ j. (row_at rows j).round) e
  numbers start k (suc n) goes_on within i low is =
      one_number i (omega (arith, is, within)) (goes_on i low (omega (arith, is)))
      ∙ numbers start k n goes_on within (i + 1) (omega (arith, low)) (omega (arith, is))

  -- the iterations of a round that ends are those from its start on
  whole : (start k : ℕ) → IsCut start k → k < length rows → of_round k ≡ flat_map f (range_with_len start (k + 1 - start))
  whole start k cut within =
      let all : k + 1 ≡ start + (k + 1 - start) = omega (arith, cut.before) in
      ap (λ n. flat_map (λ i. if is_of_round rows k i then f i else []) (all_places n)) all
      ∙ in_two (λ i. if is_of_round rows k i then f i else []) 0 start (k + 1 - start)
      ∙ ap (λ l. l ++ flat_map (λ i. if is_of_round rows k i then f i else []) (range_with_len (0 + start) (k + 1 - start)))
      (none_in (λ i. if is_of_round rows k i then f i else []) 0 start
      (λ i low high. ap (λ b. if b then f i else []) (earlier i (omega (arith, high)))))
      ∙ ap (λ a. flat_map (λ i. if is_of_round rows k i then f i else []) (range_with_len a (k + 1 - start))) (omega arith)
      ∙ alike (λ i. if is_of_round rows k i then f i else []) f start (k + 1 - start)
      (λ i low high. ap (λ b. if b then f i else []) (later i low (omega (arith, high, cut.before))))
    where
      same : (i : ℕ) → start ≤ i → i ≤ k → (row_at rows i).round ≡ (row_at rows k).round
      same i low high = numbers start k (k - i) cut.open_from within i low (omega (arith, high))

      later : (i : ℕ) → start ≤ i → i ≤ k → is_of_round rows k i ≡ true
      later i low high = is_of rows k i high (λ j from to. eq-eqb _ _ (same j (omega (arith, low, from)) to))

      earlier : (i : ℕ) → i < start → is_of_round rows k i ≡ false
      earlier i low =
          let at : start - 1 + 1 ≡ start = omega (arith, low) in
          let apart = other_number (start - 1) (omega (arith, at, cut.before, within)) (cut.begins (start - 1) at) in
          let next = ap (λ j. (row_at rows j).round) at ∙ same start (omega arith) cut.before in
          is_before rows k i (start - 1) (omega (arith, low)) (omega (arith, low, cut.before))
          (sym (ap (λ n. nat_eq (row_at rows (start - 1)).round n) next) ∙ apart)

  step : (start k : ℕ) → IsCut start k → k < length rows → (next : ℕ) × IsCut next (k + 1)
  step start k cut within =
      elim (cases_Bool (ends_round rows k)) [
        | inl ends ↦ (
          k + 1,
          record {
            before = omega arith;
            open_from = λ i low high. absurd (omega (arith, low, high));
            begins = λ i is. let e : i ≡ k = omega (arith, is) in ap (ends_round rows) e ∙ ends;
            said =
                one_more at_last k
                ∙ ap (λ b. flat_map at_last (all_places k) ++ (if b then of_round k else [])) ends
                ∙ ap (λ l. l ++ of_round k) cut.said
                ∙ ap (λ l. flat_map f (all_places start) ++ l) (whole start k cut within)
                ∙ joined;
          },
        )
        | inr goes_on ↦ (
          start,
          record {
            before = omega (arith, cut.before);
            open_from = λ i low high. elim (eqb_tells i k) [
              | inl e ↦ ap (ends_round rows) e.1 ∙ goes_on
              | inr e ↦ cut.open_from i low (omega (arith, high, e.1))
            ];
            begins = cut.begins;
            said =
                one_more at_last k
                ∙ ap (λ b. flat_map at_last (all_places k) ++ (if b then of_round k else [])) goes_on
                ∙ append-nil (flat_map at_last (all_places k))
                ∙ cut.said;
          },
        )
      ]
    where
      joined : flat_map f (all_places start) ++ flat_map f (range_with_len start (k + 1 - start)) ≡ flat_map f (all_places (k + 1))
      joined =
          let all : start + (k + 1 - start) ≡ k + 1 = omega (arith, cut.before) in
          let from : start ≡ 0 + start = omega arith in
          ap (λ a. flat_map f (all_places start) ++ flat_map f (range_with_len a (k + 1 - start))) from
          ∙ sym (in_two f 0 start (k + 1 - start))
          ∙ ap (λ n. flat_map f (all_places n)) all

  cuts : (k : ℕ) → k ≤ length rows → (start : ℕ) × IsCut start k
  cuts zero within = (
    0,
    record {
      before = omega arith;
      open_from = λ i low high. absurd (omega (arith, high));
      begins = λ i is. absurd (omega (arith, is));
      said = refl;
    },
  )
  cuts (suc k) within =
      let here = cuts k (omega (arith, within)) in
      let next = step here.0 k here.1 (omega (arith, within)) in
      let same : k + 1 ≡ suc k = omega arith in
      (next.0, subst (λ n. IsCut next.0 n) same next.1)

  -- after the last iteration every round has ended
  pub all_rounds : flat_map at_last (all_places (length rows)) ≡ flat_map f (all_places (length rows))
  all_rounds =
      let last = cuts (length rows) (omega arith) in
      elim (eqb_tells last.0 (length rows)) [
        | inl e ↦ last.1.said ∙ ap (λ n. flat_map f (all_places n)) e.1
        | inr e ↦ absurd (unended last.0 last.1 (omega (arith, last.1.before, e.1)))
      ]
    where
      unended : (start : ℕ) → IsCut start (length rows) → start < length rows → ⊥
      unended start cut open_one =
          let end : length rows - 1 + 1 ≡ length rows = omega (arith, open_one) in
          let is =
          ap (λ b. b
          || not (nat_eq (row_at rows (length rows - 1)).round
          (row_at rows (length rows - 1 + 1)).round))
          (eq-eqb (length rows - 1 + 1) (length rows) end) in
          let goes_on = cut.open_from (length rows - 1) (omega (arith, open_one)) (omega (arith, open_one)) in
          let never : true ≡ false = sym is ∙ goes_on in
          cc
