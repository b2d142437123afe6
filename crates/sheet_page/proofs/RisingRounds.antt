-- Where round numbers never fall, a round has all iterations of its number.
use Rattle.std.proofs.Common.{◌≡◌, ◌∙◌, refl, sym, ap, ℕ, zero, suc, ◌+◌, ◌-◌, ◌<◌, ◌≤◌, ◌||◌, not, List, length}
use Rattle.std.proofs.Common.{Bool, true, false, nat_eq, arith, eq-eqb, ne_eqb}
use Rattle.meek_rule.specs.Row.{Row}
use Rattle.sheet_minutes.specs.Rounds.{ends_round, row_at}
use Rattle.sheet_page.specs.Laws.{NeverFall, RisingRoundsAreWhole}
use Rattle.sheet_page.specs.Stretches.{is_of_round}
use Rattle.sheet_page.proofs.RoundPlaces.{is_of, number_of}

abbrev number : List Row → ℕ → ℕ
number rows i = (row_at rows i).round

rises :
    (rows : List Row) → NeverFall rows → (i j n : ℕ) → i + n ≡ j → j < length rows → number rows i ≤ number rows j
rises rows never i j zero is below =
    let same : number rows i ≡ number rows j = ap (number rows) (omega arith) in
    omega (arith, same)
rises rows never i j (suc n) is below =
    let early : number rows i ≤ number rows (i + n) = rises rows never i (i + n) n refl (omega arith) in
    let late : number rows (i + n) ≤ number rows (i + n + 1) = never (i + n) (omega arith) in
    let same : number rows (i + n + 1) ≡ number rows j = ap (number rows) (omega arith) in
    omega (arith, early, late, same)

module _
    (rows : List Row) (last i : ℕ) (never : NeverFall rows) (within : last < length rows)
    (below : i < length rows) (same : number rows i ≡ number rows last) where
  -- between two iterations of one number all have it
  whole : i ≤ last → is_of_round rows last i ≡ true
  whole before = is_of rows last i before (λ k from to.
      let low : number rows i ≤ number rows k = rises rows never i k (k - i) (omega arith) (omega arith) in
      let high : number rows k ≤ number rows last = rises rows never k last (last - k) (omega arith) (omega arith) in
      eq-eqb _ _ (omega (arith, low, high, same)))

  -- after the end of a round its number doesn't come again
  not_behind : ends_round rows last ≡ true → last < i → ⊥
  not_behind ends behind =
      let low : number rows last ≤ number rows (last + 1) = never last (omega arith) in
      let high : number rows (last + 1) ≤ number rows i =
      rises rows never (last + 1) i (i - (last + 1)) (omega arith) (omega arith) in
      let more : nat_eq (last + 1) (length rows) ≡ false = ne_eqb _ _ (λ e. omega arith) in
      let next : nat_eq (number rows last) (number rows (last + 1)) ≡ true =
      eq-eqb _ _ (omega (arith, low, high, same)) in
      let on = ap (λ (b : Bool). b || not (nat_eq (number rows last) (number rows (last + 1)))) more
      ∙ ap (λ (b : Bool). false || not b) next in
      let never_ends : false ≡ true = sym on ∙ ends in
      cc

  pub is_whole : ends_round rows last ≡ true → (i ≤ last) × (is_of_round rows last i ≡ true)
  is_whole ends =
      let before : i ≤ last = omega (arith, not_behind ends) in
      (before, whole before)

pub rising_rounds : RisingRoundsAreWhole
rising_rounds rows last i never within ends below =
    (λ held. number_of rows last i held.0 held.1, λ same. is_whole rows last i never within below same ends)
