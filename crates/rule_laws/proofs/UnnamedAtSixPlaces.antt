-- The worked count in which no ballot names who is elected: equal ballots are taken together, and none is gone through.
use Rattle.std.proofs.Common.{◌≡◌, ℕ, ◌+◌, ◌*◌, ◌==◌, refl, sym, ◌∙◌, List, [], ◌∷◌, ◌++◌, replicate}
use Rattle.std.proofs.lemmas.Bool.{eqb-true}
use Rattle.std.proofs.lemmas.List.Sums.{sum_by-append}
use Rattle.std.proofs.lemmas.List.Folds.{sum_by-replicate}
use Rattle.fixed_place.specs.Rounding.{scale}
use Rattle.candidate_roll.specs.declared.state.State.TheVariants.{Elected as IsElected, Defeated}
use Rattle.lot_order.specs.Lots.{first_marked}
use Rattle.meek_rule.specs.Places.{each_place}
use Rattle.meek_rule.specs.Situation.{opening}
use Rattle.meek_rule.specs.Rule.{Rule, Meek, Warren}
use Rattle.meek_rule.specs.Weights.{given_under, vote_under}
use Rattle.meek_count.specs.Rows.{IsCountUnder}
use Rattle.meek_count.proofs.WorkedRows.{Votes, all_written, counted}
use Rattle.rule_laws.specs.Unheard.{four_but_dee, rows_of_unnamed, UnnamedDeeIsElected}

-- ballots of three kinds
abbrev kinds : (a b c : ℕ) → List (List ℕ)
kinds a b c = replicate a (1 ∷ 2 ∷ 3 ∷ []) ++ replicate b (2 ∷ 1 ∷ 3 ∷ []) ++ replicate c (3 ∷ [])

-- what they give, so many of each
abbrev gift : Rule → (a b c : ℕ) → (keeps : List ℕ) → (p : ℕ) → ℕ
gift rule a b c keeps p =
    a * given_under rule 1000000 keeps 1000000 (1 ∷ 2 ∷ 3 ∷ []) (p + 1)
    + b * given_under rule 1000000 keeps 1000000 (2 ∷ 1 ∷ 3 ∷ []) (p + 1)
    + c * given_under rule 1000000 keeps 1000000 (3 ∷ []) (p + 1)

kinds-vote : (rule : Rule) (a b c : ℕ) (keeps : List ℕ) (p : ℕ)
    → gift rule a b c keeps p ≡ vote_under rule 1000000 keeps (kinds a b c) (p + 1)
kinds-vote rule a b c keeps p =
    let f : List ℕ → ℕ = λ ranking. given_under rule 1000000 keeps 1000000 ranking (p + 1) in
    let two = sum_by-append f (replicate a (1 ∷ 2 ∷ 3 ∷ [])) (replicate b (2 ∷ 1 ∷ 3 ∷ []))
    ∙ (λ i. sum_by-replicate f a (1 ∷ 2 ∷ 3 ∷ []) i + sum_by-replicate f b (2 ∷ 1 ∷ 3 ∷ []) i) in
    sym
    (sum_by-append f (replicate a (1 ∷ 2 ∷ 3 ∷ []) ++ replicate b (2 ∷ 1 ∷ 3 ∷ [])) (replicate c (3 ∷ []))
    ∙ (λ i. two i + sum_by-replicate f c (3 ∷ []) i))

abbrev gifts : Rule → (a b c : ℕ) → Votes
gifts rule a b c = λ keeps n. each_place n (λ p. gift rule a b c keeps p)

-- by either rule the rows are these
written_by :
    (rule : Rule) → rows_of_unnamed
    ≡ all_written (gifts rule 600000 300000 299999) (scale 6) (opening (scale 6) 1000 3 four_but_dee.withdrawn) rows_of_unnamed
written_by Meek = refl
written_by Warren = refl

-- so the count of ballots of these three kinds, so many of each, is this one
many-of_kinds : (rule : Rule) (a b c : ℕ) → 600000 ≡ a → 300000 ≡ b → 299999 ≡ c
    → IsCountUnder rule 6 1000 (kinds a b c) four_but_dee (3 ∷ 1 ∷ 2 ∷ 4 ∷ []) rows_of_unnamed
    (IsElected ∷ IsElected ∷ Defeated ∷ IsElected ∷ [])
many-of_kinds rule a b c a_is b_is c_is =
    let lots : List ℕ = 3 ∷ 1 ∷ 2 ∷ 4 ∷ [] in
    counted rule (gifts rule 600000 300000 299999) (λ c marks. c == first_marked lots marks) (scale 6) (kinds a b c) lots
    (λ keeps n. (λ i. gifts rule (a_is i) (b_is i) (c_is i) keeps n) ∙ (λ i. each_place n (λ p. kinds-vote rule a b c keeps p i)))
    (λ c marks taken. eqb-true _ _ taken) (opening (scale 6) 1000 3 four_but_dee.withdrawn) rows_of_unnamed
    (IsElected ∷ IsElected ∷ Defeated ∷ IsElected ∷ []) refl (written_by rule) refl

pub UnnamedDeeIsElected-holds : UnnamedDeeIsElected
UnnamedDeeIsElected-holds rule = many-of_kinds rule 600000 300000 299999 refl refl refl
