-- The worked count at six places: its ballots are too many to be gone through one by one, so equal ones are taken together.
use Rattle.std.proofs.Common.{◌≡◌, ℕ, ◌+◌, ◌*◌, ◌==◌, refl, sym, ◌∙◌, List, [], ◌∷◌, ◌++◌, replicate}
use Rattle.std.proofs.lemmas.Bool.{eqb-true}
use Rattle.std.proofs.lemmas.List.Sums.{sum_by-append}
use Rattle.std.proofs.lemmas.List.Folds.{sum_by-replicate}
use Rattle.fixed_place.specs.Rounding.{scale}
use Rattle.candidate_roll.specs.declared.state.State.TheVariants.{Elected as IsElected, Defeated}
use Rattle.lot_order.specs.Lots.{first_marked}
use Rattle.meek_rule.specs.Places.{each_place}
use Rattle.meek_rule.specs.Situation.{opening}
use Rattle.meek_rule.specs.Rule.{Meek}
use Rattle.meek_rule.specs.Weights.{given_under, vote_under}
use Rattle.meek_count.specs.Rows.{IsCount}
use Rattle.meek_count.proofs.WorkedRows.{Votes, counted}
use Rattle.rule_laws.specs.Unheard.{four_for_three, rows_of_million, AllRankDeeLastAtSixPlaces}

-- ballots of two kinds
abbrev kinds : (a b : ℕ) → List (List ℕ)
kinds a b = replicate a (1 ∷ 2 ∷ 3 ∷ 4 ∷ []) ++ replicate b (2 ∷ 1 ∷ 3 ∷ 4 ∷ [])

-- what they give
kinds-vote : (a b : ℕ) (keeps : List ℕ) (p : ℕ)
    → a * given_under Meek 1000000 keeps 1000000 (1 ∷ 2 ∷ 3 ∷ 4 ∷ []) (p + 1) + b
    * given_under Meek 1000000 keeps 1000000 (2 ∷ 1 ∷ 3 ∷ 4 ∷ []) (p + 1)
    ≡ vote_under Meek 1000000 keeps (kinds a b) (p + 1)
kinds-vote a b keeps p =
    let f : List ℕ → ℕ = λ ranking. given_under Meek 1000000 keeps 1000000 ranking (p + 1) in
    sym
    (sum_by-append f (replicate a (1 ∷ 2 ∷ 3 ∷ 4 ∷ [])) (replicate b (2 ∷ 1 ∷ 3 ∷ 4 ∷ []))
    ∙ (λ i. sum_by-replicate f a (1 ∷ 2 ∷ 3 ∷ 4 ∷ []) i + sum_by-replicate f b (2 ∷ 1 ∷ 3 ∷ 4 ∷ []) i))

-- so the count of ballots of these two kinds, so many of each, is this one
many-of_kinds : (a b : ℕ) → 899999 ≡ a → 300000 ≡ b
    → IsCount 6 1000 (kinds a b) four_for_three (3 ∷ 1 ∷ 2 ∷ 4 ∷ []) rows_of_million
    (IsElected ∷ IsElected ∷ Defeated ∷ IsElected ∷ [])
many-of_kinds a b a_is b_is =
    let gift : (a b : ℕ) → Votes = λ a b keeps n. each_place n
    (λ p. a * given_under Meek 1000000 keeps 1000000 (1 ∷ 2 ∷ 3 ∷ 4 ∷ []) (p + 1)
    + b * given_under Meek 1000000 keeps 1000000 (2 ∷ 1 ∷ 3 ∷ 4 ∷ []) (p + 1)) in
    let lots : List ℕ = 3 ∷ 1 ∷ 2 ∷ 4 ∷ [] in
    counted Meek (gift 899999 300000) (λ c marks. c == first_marked lots marks) (scale 6) (kinds a b) lots
    (λ keeps n. (λ i. gift (a_is i) (b_is i) keeps n) ∙ (λ i. each_place n (λ p. kinds-vote a b keeps p i)))
    (λ c marks taken. eqb-true _ _ taken) (opening (scale 6) 1000 3 four_for_three.withdrawn) rows_of_million
    (IsElected ∷ IsElected ∷ Defeated ∷ IsElected ∷ []) refl refl refl

pub AllRankDeeLastAtSixPlaces-holds : AllRankDeeLastAtSixPlaces
AllRankDeeLastAtSixPlaces-holds = many-of_kinds 899999 300000 refl refl
