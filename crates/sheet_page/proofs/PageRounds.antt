-- Rounds, place by place and as lists of their iterations.
use Rattle.std.proofs.Common.{◌≡◌, ◌∙◌, refl, sym, ap, ℕ, ◌+◌, ◌-◌, ◌&&◌, not, Bool, true, false, zero, suc}
use Rattle.std.proofs.Common.{List, [], ◌∷◌, ◌++◌, map, length, append-nil, append_assoc, eq-eqb, arith}
use Rattle.std.specs.Prelude.{if◌then◌else◌, nat_eq}
use Rattle.std.specs.List.{flat_map, list_all, range_with_len}
use Rattle.meek_rule.specs.Row.{Row}
use Rattle.sheet_minutes.specs.Rounds.{ends_round, row_at}
use Rattle.sheet_page.specs.SentenceLaws.{onto, rounds_of}
use Rattle.sheet_page.specs.Stretches.{have_one_number, is_of_round}
use Rattle.sheet_page.specs.Values.{all_places}
use Rattle.sheet_page.proofs.PageWalks.{shifted, ends_behind, first_ends}
use Rattle.sheet_page.proofs.RoundPlaces.{number_of}
use Rattle.sheet_page.proofs.WholeRounds.{of_round}

-- ---- a round after a first iteration

tests_shifted : (p q : ℕ → Bool) → ((i : ℕ) → p (suc i) ≡ q i) → (a n : ℕ)
    → list_all p (range_with_len (suc a) n) ≡ list_all q (range_with_len a n)
tests_shifted p q same a zero = refl
tests_shifted p q same a (suc n) =
    let next : suc a + 1 ≡ suc (a + 1) = omega arith in
    ap (λ k. p (suc a) && list_all p (range_with_len k n)) next
    ∙ ap (λ b. p (suc a) && b) (tests_shifted p q same (a + 1) n)
    ∙ ap (λ b. b && list_all q (range_with_len (a + 1) n)) (same a)

module _ (row : Row) (rows : List Row) (last : ℕ) where
  abbrev here : ℕ → Bool
  here j = have_one_number (row ∷ rows) j (suc last)

  of_same : (i : ℕ) → is_of_round (row ∷ rows) (suc last) (suc i) ≡ is_of_round rows last i
  of_same i =
      let size : suc last + 1 - suc i ≡ last + 1 - i = omega arith in
      ap (λ n. list_all here (range_with_len (suc i) n)) size
      ∙ tests_shifted here (λ j. have_one_number rows j last) (λ j. refl) i (last + 1 - i)

  of_first : is_of_round (row ∷ rows) (suc last) 0 ≡ (nat_eq row.round (row_at rows last).round && is_of_round rows last 0)
  of_first =
      let size : suc last + 1 - 0 ≡ suc (last + 1 - 0) = omega arith in
      ap (λ n. list_all here (range_with_len 0 n)) size
      ∙ ap (λ b. here 0 && b)
      (tests_shifted here (λ j. have_one_number rows j last) (λ j. refl) 0 (last + 1 - 0))

  said_behind :
      {X : Type 0} (f : Row → List X)
      → of_round (row ∷ rows) (λ i. f (row_at (row ∷ rows) i)) (suc last)
      ≡ (if is_of_round (row ∷ rows) (suc last) 0 then f row else []) ++ of_round rows (λ i. f (row_at rows i)) last
  said_behind f =
      let all = λ (i : ℕ). if is_of_round (row ∷ rows) (suc last) i then f (row_at (row ∷ rows) i) else [] in
      let size : suc last + 1 ≡ suc (last + 1) = omega arith in
      ap (λ n. flat_map all (all_places n)) size
      ∙ ap (λ l. all 0 ++ l)
      (shifted all (λ i. if is_of_round rows last i then f (row_at rows i) else [])
      (λ i. ap (λ b. if b then f (row_at rows i) else []) (of_same i)) 0 (last + 1))

-- ---- all rounds

module _ {X Y : Type 0} (f : Row → List X) (say : List X → Y) where
  -- what the round that ends at a place has
  abbrev has : List Row → (last : ℕ) → List X
  has rows last = of_round rows (λ i. f (row_at rows i)) last

  -- what is said of it, if x is before the first round
  abbrev said_at : List X → List Row → (last : ℕ) → List Y
  said_at x rows last = if ends_round rows last then say ((if is_of_round rows last 0 then x else []) ++ has rows last) ∷ [] else []

  abbrev fronted : List X → List (List X) → List (List X)
  fronted x [] = x ∷ []
  fronted x (first ∷ others) = (x ++ first) ∷ others

  abbrev rounds : List Row → List (List X)
  rounds rows = map (flat_map f) (rounds_of rows)

  fronted_none : (row : Row) (rows : List Row) → fronted [] (rounds (row ∷ rows)) ≡ rounds (row ∷ rows)
  fronted_none row [] = refl
  fronted_none row (next ∷ rows) = by (nat_eq row.round next.round) (rounds_of (next ∷ rows))
    where
      by : (b : Bool) (them : List (List Row))
          → fronted [] (map (flat_map f) (if b then onto row them else (row ∷ []) ∷ them))
          ≡ map (flat_map f) (if b then onto row them else (row ∷ []) ∷ them)
      by true [] = refl
      by true (round ∷ them) = refl
      by false them = refl

  fronted_onto : (x : List X) (row : Row) (them : List (List Row))
      → fronted (x ++ f row) (map (flat_map f) them) ≡ fronted x (map (flat_map f) (onto row them))
  fronted_onto x row [] = ap (λ l. (x ++ l) ∷ []) (sym (append-nil (f row)))
  fronted_onto x row (round ∷ them) = ap (λ l. l ∷ map (flat_map f) them) (append_assoc x (f row) (flat_map f round))

  self : (row : Row) (rows : List Row) → is_of_round (row ∷ rows) 0 0 ≡ true
  self row rows = ap (λ b. b && true) (eq-eqb row.round row.round refl)

  -- the first iteration ends its round alone
  alone : (x : List X) (row : Row) (rows : List Row)
      → say ((if is_of_round (row ∷ rows) 0 0 then x else []) ++ has (row ∷ rows) 0) ∷ [] ≡ say (x ++ (f row ++ [])) ∷ []
  alone x row rows =
      ap (λ b. say ((if b then x else []) ++ ((if b then f row else []) ++ [])) ∷ []) (self row rows)

  -- a later round, where the first two iterations have one number or not
  module _ (x : List X) (row next : Row) (rows : List Row) (i : ℕ) where
    abbrev more : List Row
    more = next ∷ rows

    abbrev said_of : (first : Bool) → Y
    said_of first = say ((if first then x else []) ++ ((if first then f row else []) ++ has more i))

    opened : said_at x (row ∷ more) (suc i) ≡ (if ends_round more i then said_of (is_of_round (row ∷ more) (suc i) 0) ∷ [] else [])
    opened =
        ap (λ b. if b
        then say ((if is_of_round (row ∷ more) (suc i) 0 then x else []) ++ has (row ∷ more) (suc i)) ∷ []
        else []) (ends_behind row more i)
        ∙ ap (λ l. if ends_round more i then say ((if is_of_round (row ∷ more) (suc i) 0 then x else []) ++ l) ∷ [] else [])
        (said_behind row more i f)

    -- whether the first iteration is of it
    first_of : (same : Bool) → nat_eq row.round next.round ≡ same
        → is_of_round (row ∷ more) (suc i) 0 ≡ (same && is_of_round more i 0)
    first_of same is = of_first row more i ∙ either (is_of_round more i 0) refl
      where
        either : (b : Bool) → is_of_round more i 0 ≡ b
            → (nat_eq row.round (row_at more i).round && is_of_round more i 0) ≡ (same && is_of_round more i 0)
        either true of =
            ap (λ n. nat_eq row.round n && is_of_round more i 0) (sym (number_of more i 0 (omega arith) of))
            ∙ ap (λ c. c && is_of_round more i 0) is
        either false of =
            ap (λ c. nat_eq row.round (row_at more i).round && c) of ∙ none (nat_eq row.round (row_at more i).round)
            ∙ sym (none same) ∙ ap (λ c. same && c) (sym of)
          where
            none : (c : Bool) → (c && false) ≡ false
            none true = refl
            none false = refl

    goes_on : nat_eq row.round next.round ≡ true → said_at x (row ∷ more) (suc i) ≡ said_at (x ++ f row) more i
    goes_on is =
        opened
        ∙ ap (λ b. if ends_round more i then said_of b ∷ [] else []) (first_of true is)
        ∙ ap (λ l. if ends_round more i then say l ∷ [] else []) (by (is_of_round more i 0))
      where
        by : (b : Bool) → (if b then x else []) ++ ((if b then f row else []) ++ has more i)
            ≡ (if b then x ++ f row else []) ++ has more i
        by true = sym (append_assoc x (f row) (has more i))
        by false = refl

    begins : nat_eq row.round next.round ≡ false → said_at x (row ∷ more) (suc i) ≡ said_at [] more i
    begins is =
        opened
        ∙ ap (λ b. if ends_round more i then said_of b ∷ [] else []) (first_of false is)
        ∙ ap (λ l. if ends_round more i then say l ∷ [] else []) (by (is_of_round more i 0))
      where
        by : (b : Bool) → has more i ≡ (if b then [] else []) ++ has more i
        by true = refl
        by false = refl

  rounds_behind : (x : List X) (row : Row) (rows : List Row)
      → flat_map (said_at x (row ∷ rows)) (all_places (length (row ∷ rows))) ≡ map say (fronted x (rounds (row ∷ rows)))
  rounds_behind x row [] = ap (λ l. l ++ []) (alone x row [])
  rounds_behind x row (next ∷ rows) = by (nat_eq row.round next.round) refl (λ y. rounds_behind y next rows)
    where
      by : (b : Bool) → nat_eq row.round next.round ≡ b
          → ((y : List X)
          → flat_map (said_at y (next ∷ rows)) (all_places (length (next ∷ rows))) ≡ map say (fronted y (rounds (next ∷ rows))))
          → flat_map (said_at x (row ∷ next ∷ rows)) (all_places (length (row ∷ next ∷ rows)))
          ≡ map say (fronted x (map (flat_map f) (if b then onto row (rounds_of (next ∷ rows)) else (row ∷ []) ∷ rounds_of (next ∷ rows))))
      by true is later =
          ap (λ l. said_at x (row ∷ next ∷ rows) 0 ++ l)
          (shifted (said_at x (row ∷ next ∷ rows)) (said_at (x ++ f row) (next ∷ rows))
          (λ i. goes_on x row next rows i is) 0 (length (next ∷ rows))
          ∙ later (x ++ f row) ∙ ap (map say) (fronted_onto x row (rounds_of (next ∷ rows))))
          ∙ ap (λ b. (if b
          then say ((if is_of_round (row ∷ next ∷ rows) 0 0 then x else []) ++ has (row ∷ next ∷ rows) 0) ∷ []
          else []) ++ map say (fronted x (map (flat_map f) (onto row (rounds_of (next ∷ rows))))))
          (first_ends row next rows ∙ ap not is)
      by false is later =
          ap (λ l. said_at x (row ∷ next ∷ rows) 0 ++ l)
          (shifted (said_at x (row ∷ next ∷ rows)) (said_at [] (next ∷ rows))
          (λ i. begins x row next rows i is) 0 (length (next ∷ rows))
          ∙ later [] ∙ ap (map say) (fronted_none next rows))
          ∙ ap (λ b. (if b
          then say ((if is_of_round (row ∷ next ∷ rows) 0 0 then x else []) ++ has (row ∷ next ∷ rows) 0) ∷ []
          else []) ++ map say (rounds (next ∷ rows)))
          (first_ends row next rows ∙ ap not is)
          ∙ ap (λ l. l ++ map say (rounds (next ∷ rows))) (alone x row (next ∷ rows))

  -- what is said of each round, place by place, is said of the rounds as lists
  pub round_by_round : (rows : List Row)
      → flat_map (λ i. if ends_round rows i then say (has rows i) ∷ [] else []) (all_places (length rows))
      ≡ map say (rounds rows)
  round_by_round [] = refl
  round_by_round (row ∷ rows) =
      (λ j. flat_map (λ i. same i j) (all_places (length (row ∷ rows))))
      ∙ rounds_behind [] row rows ∙ ap (map say) (fronted_none row rows)
    where
      same : (i : ℕ) → (if ends_round (row ∷ rows) i then say (has (row ∷ rows) i) ∷ [] else [])
          ≡ said_at [] (row ∷ rows) i
      same i = ap (λ l. if ends_round (row ∷ rows) i then say l ∷ [] else []) (by (is_of_round (row ∷ rows) i 0))
        where
          by : (b : Bool) → has (row ∷ rows) i ≡ (if b then [] else []) ++ has (row ∷ rows) i
          by true = refl
          by false = refl

-- together the rounds have all iterations
pub rounds_whole : (rows : List Row) → flat_map (λ round. round) (rounds_of rows) ≡ rows
rounds_whole [] = refl
rounds_whole (row ∷ []) = refl
rounds_whole (row ∷ next ∷ rows) =
    by (nat_eq row.round next.round) (rounds_of (next ∷ rows)) ∙ ap (λ l. row ∷ l) (rounds_whole (next ∷ rows))
  where
    by : (b : Bool) (them : List (List Row))
        → flat_map (λ round. round) (if b then onto row them else (row ∷ []) ∷ them) ≡ row ∷ flat_map (λ round. round) them
    by true [] = refl
    by true (round ∷ them) = refl
    by false them = refl
