-- Where no line is written of a kind.
use Rattle.std.proofs.Common.{◌≡◌, ◌∙◌, ℕ, zero, suc, ◌+◌, ◌-◌, ◌<◌, ◌≤◌, Bool, true, false, cond, List, [], ◌∷◌, ◌++◌, map}
use Rattle.std.proofs.Common.{ap, arith, refl, inl, inr}
use Rattle.std.specs.Prelude.{◌↔◌}
use Rattle.std.specs.List.{filter, flat_map, range_with_len}
use Rattle.std.proofs.lemmas.Bool.{cases_eq}
use Rattle.ballot_findings.specs.Lines.{candidate_line, candidate_lines, later_pairs, only_if, pair_line, pair_lines, told}

-- ---- lists

pub front_none : {X : Type 0} (xs ys : List X) → xs ++ ys ≡ [] → xs ≡ []
front_none [] ys none = refl
front_none (x ∷ xs) ys none = absurd (cc)

pub back_none : {X : Type 0} (xs ys : List X) → xs ++ ys ≡ [] → ys ≡ []
back_none [] ys none = none
back_none (x ∷ xs) ys none = absurd (cc)

-- where there is nothing for all of a run of numbers, there is nothing for each
each_none :
    {X : Type 0} (f : ℕ → List X) (a n c : ℕ) → flat_map f (range_with_len a n) ≡ [] → a ≤ c → c < a + n → f c ≡ []
each_none f a zero c none from below = absurd (omega (arith, from, below))
each_none f a (suc n) c none from below =
    elim (cases_eq c a) [
      | inl same ↦ ap f same ∙ front_none (f a) (flat_map f (range_with_len (a + 1) n)) none
      | inr other ↦
          each_none f (a + 1) n c (back_none (f a) (flat_map f (range_with_len (a + 1) n)) none)
          (omega (arith, from, other)) (omega (arith, below))
    ]

-- and the other way round
none_each :
    {X : Type 0} (f : ℕ → List X) (a n : ℕ) → ((c : ℕ) → a ≤ c → c < a + n → f c ≡ [])
    → flat_map f (range_with_len a n) ≡ []
none_each f a zero none = refl
none_each f a (suc n) none =
    ap (λ (l : List _). l ++ flat_map f (range_with_len (a + 1) n)) (none a (omega arith) (omega arith))
    ∙ none_each f (a + 1) n (λ c from below. none c (omega (arith, from)) (omega (arith, below)))

-- the first of those that are kept
kept_first : {X : Type 0} (b : Bool) (x : X) (xs : List X) → cond b (x ∷ xs) xs ≡ [] → (b ≡ false) × (xs ≡ [])
kept_first true x xs none = absurd (cc)
kept_first false x xs none = (refl, none)

-- none of a run of numbers is kept exactly where each fails
kept_none :
    (test : ℕ → Bool) (a n c : ℕ) → filter test (range_with_len a n) ≡ [] → a ≤ c → c < a + n → test c ≡ false
kept_none test a zero c none from below = absurd (omega (arith, from, below))
kept_none test a (suc n) c none from below =
    let parts = kept_first (test a) a (filter test (range_with_len (a + 1) n)) none in
    elim (cases_eq c a) [
      | inl same ↦ ap test same ∙ parts.0
      | inr other ↦ kept_none test (a + 1) n c parts.1 (omega (arith, from, other)) (omega (arith, below))
    ]

none_kept :
    (test : ℕ → Bool) (a n : ℕ) → ((c : ℕ) → a ≤ c → c < a + n → test c ≡ false) → filter test (range_with_len a n) ≡ []
none_kept test a zero none = refl
none_kept test a (suc n) none =
    ap (λ (b : Bool). cond b (a ∷ filter test (range_with_len (a + 1) n)) (filter test (range_with_len (a + 1) n)))
    (none a (omega arith) (omega arith))
    ∙ none_kept test (a + 1) n (λ c from below. none c (omega (arith, from)) (omega (arith, below)))

-- ---- lines

pub not_written : (test : Bool) (b : ℕ) (text : List ℕ) → only_if test (b ∷ text) ≡ [] → test ≡ false
not_written true b text none = absurd (cc)
not_written false b text none = refl

pub unwritten : (test : Bool) (text : List ℕ) → test ≡ false → only_if test text ≡ []
unwritten test text is = ap (λ (b : Bool). only_if b text) is

-- Nothing is told exactly where there is nothing to be told. A line has a byte.
pub nothing_told :
    {X : Type 0} (line : X → List ℕ) → ((x : X) → line x ≡ [] → ⊥) → (xs : List X) → (told line xs ≡ []) ↔ (xs ≡ [])
unfolding told
nothing_told line some [] = (λ none. refl, λ none. refl)
nothing_told line some (x ∷ xs) = (
  λ none. absurd (some x (front_none (line x) _ (front_none _ _ none))),
  λ none. absurd (cc),
)

-- No candidate has a line exactly where none passes the test. The words begin with a byte.
pub candidates_told :
    (input : List ℕ) (b : ℕ) (words : List ℕ) (n : ℕ) (test : ℕ → Bool)
    → (candidate_lines input (b ∷ words) n test ≡ []) ↔ ((c : ℕ) → (1 ≤ c) × (c ≤ n) → test c ≡ false)
candidates_told input b words n test =
    let all =
    nothing_told (candidate_line input (b ∷ words)) (λ c empty. absurd (cc)) (filter test (range_with_len 1 n)) in (
      λ none c of. kept_none test 1 n c (all.0 none) of.0 (omega (arith, of.1)),
      λ none. all.1 (none_kept test 1 n (λ c from below. none c (from, omega (arith, below)))),
    )

mapped_none : {X Y : Type 0} (f : X → Y) (xs : List X) → map f xs ≡ [] → xs ≡ []
mapped_none f [] none = refl
mapped_none f (x ∷ xs) none = absurd (cc)

-- No pair has a line exactly where none passes the test.
pub pairs_told :
    (input : List ℕ) (b : ℕ) (words : List ℕ) (n : ℕ) (test : ℕ → ℕ → Bool)
    → (pair_lines input (b ∷ words) n test ≡ [])
    ↔ ((c d : ℕ) → (1 ≤ c) × (c ≤ n) → (1 ≤ d) × (d ≤ n) → c < d → test c d ≡ false)
pairs_told input b words n test =
    let line : ℕ × ℕ → List ℕ = λ two. pair_line input (b ∷ words) two.0 two.1 in
    let later = later_pairs n test in
    let all = nothing_told line (λ two empty. absurd (cc)) (flat_map later (range_with_len 1 n)) in (
      λ none c d of other less.
          kept_none (test c) (c + 1) (n - c) d
          (mapped_none (λ (d : ℕ). (c, d)) (filter (test c) (range_with_len (c + 1) (n - c)))
          (each_none later 1 n c (all.0 none) of.0 (omega (arith, of.1))))
          (omega (arith, less)) (omega (arith, other.1, of.1, less)),
      λ none.
          all.1 (none_each later 1 n
          (λ c from below.
          ap (map (λ (d : ℕ). (c, d)))
          (none_kept (test c) (c + 1) (n - c)
          (λ d after inside.
          none c d (from, omega (arith, below)) (omega (arith, after), omega (arith, inside, below)) (omega (arith, after)))))),
    )
