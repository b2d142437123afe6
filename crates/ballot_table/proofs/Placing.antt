-- Candidates who are put at their ranks, each in place of whoever is there; and that they stand alone where each of the
-- first ranks, as many as are put, is somebody's.
use Rattle.std.proofs.Common.{◌≡◌, ◌≢◌, ℕ, suc, ◌+◌, ◌-◌, ◌<◌, ◌≤◌, ◌==◌, not, Bool, true, false, cond, if◌then◌else◌}
use Rattle.std.proofs.Common.{List, [], ◌∷◌, ◌++◌, length, map, get_or, set, Option, Some, None, All, refl}
use Rattle.std.proofs.Common.{ap, sym, ◌∙◌, inl, inr, arith}
use Rattle.std.specs.List.{between, count_by, filter_map, enumerate_from, cons_option}
use Rattle.std.specs.Option.{option_to_list}
use Rattle.std.proofs.lemmas.Bool.{cases_eq, eq-eqb, ne_eqb}
use Rattle.std.proofs.lemmas.Bool.Decides.{leb_tells}
use Rattle.std.proofs.lemmas.List.{append-nil, get_or_past, get_or-set_same, get_or-set_other, length-map, length-set}
use Rattle.std.proofs.lemmas.List.{map_push, nil_from_length}
use Rattle.std.proofs.lemmas.List.Edits.{get_or-between, length-between}
use Rattle.std.proofs.lemmas.List.Elements.{All-nil, All-head, All-push, All-tail}
use Rattle.std.proofs.lemmas.List.Sums.{sum_by-cons, sum_by_push}
use Rattle.table_text.specs.declared.cell.Cell.{Cell}
use Rattle.table_text.specs.declared.short.TheConstants.{NO_NUMBER}
use Rattle.ballot_table.specs.PlainRows.{IsPlaced, last_of, numbers_of, rank_or_none}
use Rattle.ballot_table.specs.Rows.{holder, holders}
use Rattle.ballot_table.proofs.HeldLemmas.{holders_more, no_holder, the_holder}
use Rattle.ballot_table.proofs.RankSums.{IsSomeUpTo, at_rank, one_behind, one_of_first, sums, sums_both, sums_none}
use Rattle.ballot_table.proofs.RankSums.{sums_one_rank}

abbrev IsShort : Cell → Type 0
IsShort cell = cell.number < NO_NUMBER

abbrev IsSome : ℕ → Bool
IsSome n = not (n == 0)

-- who has a rank, where that is a candidate's number or 0
abbrev pub one_or_none : ℕ → List ℕ
one_or_none c = if c == 0 then [] else c ∷ []

-- The candidates with these numbers stand at their ranks, nobody at the same as another, and nobody after a last one.
pub record ArePlaced (numbers placed : List ℕ) (last : ℕ) : Type 0 where
  pub size : length placed ≡ NO_NUMBER
  pub each : (rank : ℕ) → 1 ≤ rank → holders rank (map rank_or_none numbers) ≡ one_or_none (get_or placed rank 0)
  pub behind : (rank : ℕ) → last < rank → get_or placed rank 0 ≡ 0
  pub inside : last < NO_NUMBER

-- ---- one after another

-- nobody is placed yet
pub none_placed : (placed : List ℕ) → length placed ≡ NO_NUMBER → All (λ c. c ≡ 0) placed → IsPlaced [] placed 0
none_placed placed size free = record {
  short = All-nil IsShort;
  size = size;
  each = λ rank least. zeros rank;
  counted = refl;
}
  where
    zeros : (k : ℕ) → get_or placed k 0 ≡ 0
    zeros k =
        elim (leb_tells (suc k) (length placed)) [
          | inl inside ↦ free k 0 (omega (arith, inside.1))
          | inr past ↦ get_or_past placed k 0 (omega (arith, past.1))
        ]

last_push : (cs : List ℕ) (c : ℕ) → last_of (cs ++ c ∷ []) ≡ c
last_push [] c = refl
last_push (a ∷ []) c = refl
last_push (a ∷ b ∷ cs) c = last_push (b ∷ cs) c

module _ (cells : List Cell) (placed : List ℕ) (ranked : ℕ) (cell : Cell) (c : ℕ) (is : IsPlaced cells placed ranked)
    (short : cell.number < NO_NUMBER) (next : c ≡ length cells + 1)
  where
    abbrev rank : ℕ
    rank = cell.number

    abbrev new : List ℕ
    new = set placed rank c

    abbrev ranks : List (Option ℕ)
    ranks = map rank_or_none (numbers_of cells)

    within : rank < length placed
    within = let size = is.size in omega (arith, size, short)

    number : 1 + length ranks ≡ c
    number =
        let long = length-map (numbers_of cells) rank_or_none in
        let as_many = length-map cells (λ (each : Cell). each.number) in
        omega (arith, long, as_many, next)

    -- who holds a rank, with one candidate more
    more : (r : ℕ) → holders r (map rank_or_none (numbers_of (cells ++ cell ∷ [])))
        ≡ holders r ranks ++ option_to_list (holder r (1 + length ranks, rank_or_none rank))
    more r =
        ap (λ (ns : List ℕ). holders r (map rank_or_none ns)) (map_push (λ (each : Cell). each.number) cells cell)
        ∙ ap (holders r) (map_push rank_or_none (numbers_of cells) rank)
        ∙ holders_more r ranks (rank_or_none rank)

    -- the rank is no candidate's other rank
    not_it : (r : ℕ) → r ≢ rank → (q : ℕ) → rank_or_none rank ≡ Some q → q ≡ r → ⊥
    not_it r other q is_q same =
        elim (cases_eq rank 0) [
          | inl zeroth ↦ cc (sym (ap (λ (b : Bool). cond b None (Some rank)) (eq-eqb rank 0 zeroth)) ∙ is_q)
          | inr some ↦
              let found : rank ≡ q = cc (sym (ap (λ (b : Bool). cond b None (Some rank)) (ne_eqb rank 0 some)) ∙ is_q) in
              other (omega (arith, found, same))
        ]

    abbrev now : ℕ → List ℕ
    now r = holders r (map rank_or_none (numbers_of (cells ++ cell ∷ [])))

    each_other : (r : ℕ) → 1 ≤ r → r ≢ rank → get_or new r 0 ≡ last_of (now r)
    each_other r from_one other =
        get_or-set_other placed rank r c 0 other
        ∙ is.each r from_one
        ∙ sym (ap last_of (more r
        ∙ ap (λ (o : Option ℕ). holders r ranks ++ option_to_list o)
        (no_holder r (1 + length ranks) (rank_or_none rank) (not_it r other))
        ∙ append-nil (holders r ranks)))

    each_same : (r : ℕ) → 1 ≤ r → r ≡ rank → get_or new r 0 ≡ last_of (now r)
    each_same r from_one same =
        let some : (rank == 0) ≡ false = ne_eqb rank 0 (λ e. omega (arith, e, same, from_one)) in
        ap (λ (k : ℕ). get_or new k 0) same
        ∙ get_or-set_same placed rank c 0 within
        ∙ sym (ap last_of (more r
        ∙ ap (λ (b : Bool). holders r ranks ++ option_to_list (holder r (1 + length ranks, cond b None (Some rank)))) some
        ∙ ap (λ (o : Option ℕ). holders r ranks ++ option_to_list o) (the_holder r (1 + length ranks) rank (sym same)))
        ∙ last_push (holders r ranks) (1 + length ranks)
        ∙ number)

    -- the next candidate is placed
    pub one_placed : (more_ranked : ℕ) → more_ranked ≡ ranked + cond (not (rank == 0)) 1 0
        → IsPlaced (cells ++ cell ∷ []) new more_ranked
    one_placed more_ranked counted = record {
      short = All-push IsShort cells cell is.short short;
      size = length-set placed rank c ∙ is.size;
      each = λ r from_one.
          elim (cases_eq r rank) [
            | inl same ↦ each_same r from_one same
            | inr other ↦ each_other r from_one other
          ];
      counted =
          let before = is.counted in
          let pushed =
          ap (count_by IsSome) (map_push (λ (each : Cell). each.number) cells cell)
          ∙ sum_by_push (λ (n : ℕ). cond (IsSome n) 1 0) (numbers_of cells) rank in
          omega (arith, counted, before, pushed);
    }

-- ---- all together

abbrev Sum : (from : ℕ) → List Cell → ℕ → ℕ
Sum from cells r = length (filter_map (holder r) (enumerate_from from (map rank_or_none (numbers_of cells))))

-- a cell in front holds its rank, if it has one
abbrev at_own : (n r : ℕ) → ℕ
at_own n r = cond (n == 0) 0 (at_rank n r)

one_in_front : (n r c : ℕ) (rest : List ℕ)
    → length (cons_option (holder r (c, rank_or_none n)) rest) ≡ at_own n r + length rest
one_in_front n r c rest = by_test (n == 0)
  where
    by_rank : (b : Bool) → length (cons_option (cond b (Some c) None) rest) ≡ cond b 1 0 + length rest
    by_rank true = omega arith
    by_rank false = omega arith

    by_test : (b : Bool) → length (cons_option (holder r (c, cond b None (Some n))) rest)
        ≡ cond b 0 (at_rank n r) + length rest
    by_test true = omega arith
    by_test false = by_rank (n == r)

own_rank : (n m : ℕ) → n < NO_NUMBER → 99 ≤ m → sums (at_own n) 1 m ≡ cond (IsSome n) 1 0
own_rank n m short long =
    elim (cases_eq n 0) [
      | inl zeroth ↦
          let none = eq-eqb n 0 zeroth in
          sums_none (at_own n) 1 m (λ r least. ap (λ (b : Bool). cond b 0 (at_rank n r)) none)
          ∙ sym (ap (λ (b : Bool). cond (not b) 1 0) none)
      | inr some ↦
          let is_some = ne_eqb n 0 some in
          ap (λ (b : Bool). sums (λ r. cond b 0 (at_rank n r)) 1 m) is_some
          ∙ sums_one_rank n 1 m (omega (arith, some)) (omega (arith, short, long))
          ∙ sym (ap (λ (b : Bool). cond (not b) 1 0) is_some)
    ]

-- as many hold ranks as have one
all_hold : (cells : List Cell) (from m : ℕ) → All IsShort cells → 99 ≤ m
    → sums (Sum from cells) 1 m ≡ count_by IsSome (numbers_of cells)
all_hold [] from m short long = sums_none (Sum from []) 1 m (λ r least. refl)
all_hold (cell ∷ cells) from m short long =
    let n = cell.number in
    let both =
    sums_both (at_own n) (Sum (from + 1) cells) (Sum from (cell ∷ cells))
    (λ r. one_in_front n r from
    (filter_map (holder r) (enumerate_from (from + 1) (map rank_or_none (numbers_of cells))))) 1 m in
    let here = own_rank n m (All-head IsShort cell cells short) long in
    let rest = all_hold cells (from + 1) m (All-tail IsShort cell cells short) long in
    let counted = sum_by-cons (λ (k : ℕ). cond (IsSome k) 1 0) n (numbers_of cells) in
    omega (arith, both, here, rest, counted)

some_last : (cs : List ℕ) → last_of cs ≢ 0 → 1 ≤ length cs
some_last [] some = absurd (some refl)
some_last (c ∷ cs) some = omega arith

only_last : (cs : List ℕ) → length cs ≡ 1 → cs ≡ last_of cs ∷ []
only_last [] one = absurd (omega (arith, one))
only_last (c ∷ []) one = refl
only_last (c ∷ d ∷ cs) one = absurd (omega (arith, one))

module _ (cells : List Cell) (placed : List ℕ) (ranked : ℕ) (is : IsPlaced cells placed ranked) (inside : ranked < NO_NUMBER)
    (some : All (λ c. c ≢ 0) (between 1 (ranked + 1) placed))
  where
    abbrev at_each : ℕ → List ℕ
    at_each r = holders r (map rank_or_none (numbers_of cells))

    hold : (m : ℕ) → 99 ≤ m → sums (Sum 1 cells) 1 m ≡ ranked
    hold m long = all_hold cells 1 m is.short long ∙ sym is.counted

    stands : (r : ℕ) → 1 ≤ r → r < 1 + ranked → get_or placed r 0 ≢ 0
    stands r least most zeroth =
        let size = is.size in
        let is_long = length-between placed 1 (ranked + 1) (omega (arith, size, inside)) in
        let same : 1 + (r - 1) ≡ r = omega (arith, least) in
        some (r - 1) 0 (omega (arith, is_long, least, most))
        (get_or-between placed 1 (ranked + 1) (r - 1) 0 (omega (arith, least, most))
        ∙ ap (λ (k : ℕ). get_or placed k 0) same ∙ zeroth)

    held_up_to : IsSomeUpTo (Sum 1 cells) 1 ranked
    held_up_to r least most =
        some_last (at_each r) (λ zeroth. stands r least most (is.each r least ∙ zeroth))

    alone : (r : ℕ) → 1 ≤ r → r < 1 + ranked → at_each r ≡ one_or_none (get_or placed r 0)
    alone r least most =
        let bound = one_of_first (Sum 1 cells) ranked 1 99 r (omega (arith, inside)) held_up_to least most in
        let all = hold 99 (omega arith) in
        let here = held_up_to r least most in
        only_last (at_each r) (omega (arith, bound, all, here))
        ∙ ap (λ (c : ℕ). c ∷ []) (sym (is.each r least))
        ∙ sym (ap (λ (b : Bool). cond b [] (get_or placed r 0 ∷ [])) (ne_eqb (get_or placed r 0) 0 (stands r least most)))

    empty : (r : ℕ) → ranked < r → at_each r ≡ []
    empty r past =
        let bound = one_behind (Sum 1 cells) ranked 1 (99 + r) r (omega (arith, inside)) held_up_to (omega (arith, past))
        (omega arith) in
        let all = hold (99 + r) (omega arith) in
        nil_from_length (at_each r) (omega (arith, bound, all))

    nobody : (r : ℕ) → ranked < r → get_or placed r 0 ≡ 0
    nobody r past = is.each r (omega (arith, past)) ∙ ap last_of (empty r past)

    -- each of the first ranks is held, by as many as have a rank: so by one each, and no other rank is held
    pub are_placed : ArePlaced (numbers_of cells) placed ranked
    are_placed = record {
      size = is.size;
      each = λ r least.
          elim (leb_tells (suc r) (1 + ranked)) [
            | inl before ↦ alone r least (omega (arith, before.1))
            | inr past ↦
                let behind : ranked < r = omega (arith, past.1) in
                empty r behind ∙ sym (ap one_or_none (nobody r behind))
          ];
      behind = nobody;
      inside = inside;
    }
