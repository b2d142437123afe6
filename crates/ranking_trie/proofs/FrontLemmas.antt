-- A table of the nodes of two candidates.
use Rattle.std.proofs.Common.{◌≡◌, ◌≢◌, ℕ, ◌+◌, ◌-◌, ◌*◌, ◌<◌, ◌≤◌, List, [], ◌∷◌, length, get_or, take, ◌⊎◌, inl, inr}
use Rattle.std.proofs.Common.{arith, refl, ap, sym, ◌∙◌}
use Rattle.std.specs.List.{All}
use Rattle.std.proofs.lemmas.Bool.{cases_eq}
use Rattle.ranking_trie.specs.declared.fronts.Fronts.{Fronts}
use Rattle.ranking_trie.specs.Forest.{Forest}
use Rattle.ranking_trie.specs.Fronts.{place_on, entry, KeepsPlaces, KeepsOthers, KnowsPlaces}
use Rattle.ranking_trie.proofs.BelowLemmas.{take_two}

some_of : (n : ℕ) → n ≢ 0 → 1 ≤ n
some_of n other = omega (arith, other)

-- what a table says stays true as nodes come
pub known_kept :
    (fronts : Fronts) (f g : Forest) → KnowsPlaces fronts f → KeepsPlaces f g → KnowsPlaces fronts g
known_kept fronts f g known kept = λ a b some_a few_a some_b few_b is.
    let was : place_on 0 (a ∷ b ∷ []) f ≡ entry fronts a b = known a b some_a few_a some_b few_b is in
    kept 0 (a ∷ b ∷ []) (λ none. is (sym was ∙ none)) ∙ was

-- and of all but a ranking's first two, as ballots with the ranking go
pub known_others :
    (fronts : Fronts) (f g : Forest) (ranks : List ℕ) → KnowsPlaces fronts f → KeepsOthers ranks f g → (a b : ℕ)
    → 1 ≤ a → a ≤ fronts.candidates → 1 ≤ b → b ≤ fronts.candidates → take 2 ranks ≢ a ∷ b ∷ []
    → entry fronts a b ≢ 0 → place_on 0 (a ∷ b ∷ []) g ≡ entry fronts a b
known_others fronts f g ranks known kept a b some_a few_a some_b few_b other is =
    let was : place_on 0 (a ∷ b ∷ []) f ≡ entry fronts a b = known a b some_a few_a some_b few_b is in
    kept 0 (a ∷ b ∷ []) other (λ none. is (sym was ∙ none)) ∙ was

-- a table in which what it says of two candidates was written
pub known_set :
    (old new : Fronts) (f : Forest) (c d place : ℕ) → new.candidates ≡ old.candidates
    → (entry new c d ≢ 0 → entry new c d ≡ place)
    → ((a b : ℕ) → 1 ≤ a → a ≤ old.candidates → 1 ≤ b → b ≤ old.candidates → (a ≢ c) ⊎ (b ≢ d)
    → entry new a b ≡ entry old a b)
    → (1 ≤ place → place_on 0 (c ∷ d ∷ []) f ≡ place)
    → ((a b : ℕ) → 1 ≤ a → a ≤ old.candidates → 1 ≤ b → b ≤ old.candidates → (a ≢ c) ⊎ (b ≢ d)
    → entry old a b ≢ 0 → place_on 0 (a ∷ b ∷ []) f ≡ entry old a b)
    → KnowsPlaces new f
known_set old new f c d place size own others leads known = λ a b some_a few_a some_b few_b is.
    let beside : (a ≢ c) ⊎ (b ≢ d) → place_on 0 (a ∷ b ∷ []) f ≡ entry new a b =
    λ other.
    let inside_a : a ≤ old.candidates = omega (arith, size, few_a) in
    let inside_b : b ≤ old.candidates = omega (arith, size, few_b) in
    let same : entry new a b ≡ entry old a b = others a b some_a inside_a some_b inside_b other in
    known a b some_a inside_a some_b inside_b other (λ none. is (same ∙ none)) ∙ sym same in
    elim (cases_eq a c) [
      | inr other ↦ beside (inl other)
      | inl upper ↦
          elim (cases_eq b d) [
            | inr other ↦ beside (inr other)
            | inl lower ↦
                let here : entry new a b ≡ entry new c d =
                ap (λ (x : ℕ). entry new x b) upper ∙ ap (entry new c) lower in
                let is_place : entry new c d ≡ place = own (λ none. is (here ∙ none)) in
                let path : place_on 0 (a ∷ b ∷ []) f ≡ place_on 0 (c ∷ d ∷ []) f =
                ap (λ (x : ℕ). place_on 0 (x ∷ b ∷ []) f) upper
                ∙ ap (λ (x : ℕ). place_on 0 (c ∷ x ∷ []) f) lower in
                path ∙ (leads (some_of place (λ none. is (here ∙ (is_place ∙ none)))) ∙ sym (here ∙ is_place))
          ]
    ]

-- candidates are few
pub few_numbers :
    (ranks : List ℕ) (n : ℕ) → n ≤ 250 → All (λ r. (1 ≤ r) × (r ≤ n)) ranks → All (λ r. (1 ≤ r) × (r ≤ 250)) ranks
few_numbers ranks n few numbers = λ k d inside.
    let r = numbers k d inside in (r.0, omega (arith, r.1, few))

-- a place that the table says is that of the first two ranks
pub known_place :
    (fronts : Fronts) (f : Forest) (ranks : List ℕ) (place : ℕ) → KnowsPlaces fronts f
    → All (λ r. (1 ≤ r) × (r ≤ fronts.candidates)) ranks → 2 ≤ length ranks
    → place ≡ entry fronts (get_or ranks 0 0) (get_or ranks 1 0) → place ≢ 0
    → place_on 0 (take 2 ranks) f ≡ place
known_place fronts f ranks place known numbers two is some =
    let c = numbers 0 0 (omega (arith, two)) in
    let d = numbers 1 0 (omega (arith, two)) in
    ap (λ (path : List ℕ). place_on 0 path f) (take_two ranks two)
    ∙ (known (get_or ranks 0 0) (get_or ranks 1 0) c.0 c.1 d.0 d.1 (λ none. some (is ∙ none)) ∙ sym is)

pub two_or_none : (ranks : List ℕ) (place : ℕ) → (length ranks < 2 → place ≡ 0) → place ≢ 0 → 2 ≤ length ranks
two_or_none [] place short some = absurd (some (short (omega arith)))
two_or_none (c ∷ []) place short some = absurd (some (short (omega arith)))
two_or_none (c ∷ d ∷ s) place short some = omega arith

-- another pair is not what the ranks begin with
pub other_pair :
    (ranks : List ℕ) (a b : ℕ) → 2 ≤ length ranks → (a ≢ get_or ranks 0 0) ⊎ (b ≢ get_or ranks 1 0)
    → take 2 ranks ≢ a ∷ b ∷ []
other_pair ranks a b two other = λ same.
    let is : get_or ranks 0 0 ∷ get_or ranks 1 0 ∷ [] ≡ a ∷ b ∷ [] = sym (take_two ranks two) ∙ same in
    elim other [
      | inl ne ↦ ne (sym (ap (λ (l : List ℕ). get_or l 0 0) is))
      | inr ne ↦ ne (sym (ap (λ (l : List ℕ). get_or l 1 0) is))
    ]

-- fewer than two ranks begin no pair
one_short : (ranks : List ℕ) (a b : ℕ) → length ranks < 2 → take 2 ranks ≢ a ∷ b ∷ []
one_short [] a b short = λ same. absurd (omega (arith, ap length same))
one_short (c ∷ []) a b short = λ same. absurd (omega (arith, ap length same))
one_short (c ∷ d ∷ s) a b short = absurd (omega (arith, short))

pub known_fewer :
    (fronts : Fronts) (f g : Forest) (ranks : List ℕ) → length ranks < 2 → KnowsPlaces fronts f
    → KeepsOthers ranks f g → KnowsPlaces fronts g
known_fewer fronts f g ranks short known kept = λ a b some_a few_a some_b few_b is.
    known_others fronts f g ranks known kept a b some_a few_a some_b few_b (one_short ranks a b short) is

-- no table says nothing, and one says what another with the same entries does
pub nothing_known : (fronts : Fronts) → fronts.places.items ≡ [] → (f : Forest) → KnowsPlaces fronts f
nothing_known fronts empty f = λ a b some_a few_a some_b few_b is.
    absurd (is (ap (λ (l : List ℕ). get_or l ((a - 1) * fronts.candidates + (b - 1)) 0) empty))

pub known_same :
    (old new : Fronts) (f g : Forest) → new.candidates ≡ old.candidates
    → ((a b : ℕ) → entry new a b ≡ entry old a b) → g ≡ f → KnowsPlaces old f → KnowsPlaces new g
known_same old new f g size same is known = λ a b some_a few_a some_b few_b some.
    ap (place_on 0 (a ∷ b ∷ [])) is
    ∙ (known a b some_a (omega (arith, size, few_a)) some_b (omega (arith, size, few_b))
    (λ none. some (same a b ∙ none))
    ∙ sym (same a b))

-- or where what it says of the ranking's first two is true again
pub known_again :
    (fronts : Fronts) (f g : Forest) (ranks : List ℕ) (place : ℕ) → 2 ≤ length ranks → KnowsPlaces fronts f
    → KeepsOthers ranks f g → entry fronts (get_or ranks 0 0) (get_or ranks 1 0) ≡ place
    → place_on 0 (take 2 ranks) g ≡ place → KnowsPlaces fronts g
known_again fronts f g ranks place two known kept is there =
    known_set fronts fronts g (get_or ranks 0 0) (get_or ranks 1 0) place refl (λ some. is)
    (λ a b some_a few_a some_b few_b other. refl)
    (λ some. ap (λ (path : List ℕ). place_on 0 path g) (sym (take_two ranks two)) ∙ there)
    (λ a b some_a few_a some_b few_b other. known_others fronts f g ranks known kept a b some_a few_a some_b few_b
    (other_pair ranks a b two other))
