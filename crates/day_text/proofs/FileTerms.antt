-- What a day file says of its counts: places, omega, and lots that are an order of all candidates.
use Rattle.std.proofs.Common.{◌≡◌, ◌≢◌, ◌⊎◌, ℕ, zero, suc, ◌<◌, ◌≤◌, ◌==◌, List, [], ◌∷◌, ◌++◌, length, get_or}
use Rattle.std.proofs.Common.{Contains, true, false, sym, subst, arith, inl, inr, ⊎_elim}
use Rattle.std.specs.Prelude.{Option, Some, None}
use Rattle.std.proofs.lemmas.Bool.{cases_order}
use Rattle.std.proofs.lemmas.Bool.Decides.{eqb_tells}
use Rattle.std.proofs.lemmas.List.{length-append}
use Rattle.std.proofs.lemmas.List.Elements.{All-push, Contains-get_or}
use Rattle.std.proofs.lemmas.List.Quantifiers.{all_pairs_push}
use Rattle.fixed_place.specs.declared.omega.TheConstants.{MOST_OMEGA}
use Rattle.plain_ballots.specs.declared.limits.TheConstants.{MOST_CANDIDATES}
use Rattle.plain_ballots.specs.Ranking.{IsRanking}
use Rattle.plain_ballots.proofs.RankingLemmas.{length-IsRanking}
use Rattle.lot_order.specs.Lots.{IsOrder}
use Rattle.day_reader.specs.Day.{AreAllLots, Scale, MayBeScale, scale_of}

-- ---- places and omega

pub record IsInScale (places omega' : ℕ) : Type 0 where
  pub least_places : 6 ≤ places
  pub most_places : places ≤ 9
  pub some_omega : 1 ≤ omega'
  pub small_omega : omega' ≤ MOST_OMEGA

pub in_scale : (scale : Option Scale) → MayBeScale scale → IsInScale (scale_of scale).places (scale_of scale).omega
in_scale (Some scale) is = record {
  least_places = is.least_places;
  most_places = is.most_places;
  some_omega = is.omega_in.least;
  small_omega = is.omega_in.most;
}
in_scale None is = record {
  least_places = omega arith;
  most_places = omega arith;
  some_omega = omega arith;
  small_omega = omega arith;
}

-- ---- lots

abbrev IsNone : ℕ → List ℕ → Type 0
IsNone c lots = (k d : ℕ) → k < length lots → get_or lots k d ≢ c

behind_first : (x c : ℕ) (lots : List ℕ) → x ≢ c → IsNone c lots → IsNone c (x ∷ lots)
behind_first x c lots other none zero d inside = other
behind_first x c lots other none (suc k) d inside = none k d (omega (arith, inside))

-- whether a number is in a list
stands : (c : ℕ) (lots : List ℕ) → Contains lots c ⊎ IsNone c lots
stands c [] = inr (λ k d inside. absurd (omega (arith, inside)))
stands c (x ∷ lots) =
    ⊎_elim
    (λ (here : ((x == c) ≡ true) × (x ≡ c)).
    inl (subst (Contains (x ∷ lots)) here.1 (Contains-get_or (x ∷ lots) 0 0 (omega arith))))
    (λ (other : ((x == c) ≡ false) × (x ≢ c)).
    ⊎_elim
    (λ (found : Contains lots c). inl (suc found.0, omega (arith, found.1), found.2))
    (λ (none : IsNone c lots). inr (behind_first x c lots other.1 none))
    (stands c lots))
    (eqb_tells x c)

module _ (n : ℕ) (lots : List ℕ) (are : AreAllLots n lots) where
  -- With one candidate more the lots would be a ranking of n candidates that is longer than n.
  no_other : (c : ℕ) → 1 ≤ c → c ≤ n → IsNone c lots → ⊥
  no_other c some few other =
      let in_range = are.numbers.in_range in
      let ranking : IsRanking n (lots ++ c ∷ []) = record {
        numbers =
            All-push (λ (r : ℕ). (1 ≤ r) × (r ≤ n)) lots c
            (λ k d inside. ((in_range k d inside).least, (in_range k d inside).most)) (some, few);
        different = all_pairs_push (λ (a b : ℕ). a ≢ b) lots c are.numbers.different other;
      } in
      let long = length-IsRanking n (lots ++ c ∷ []) ranking in
      let all = are.all in
      absurd (omega (arith, long, all, length-append lots (c ∷ [])))

  -- the lots of a day file are an order of all candidates
  pub order_of : n ≤ MOST_CANDIDATES → IsOrder lots
  order_of few =
      let all = are.all in
      record {
        few = omega (arith, few, all);
        candidates = λ i below.
            let is = are.numbers.in_range i 0 below in
            (is.least, let most = is.most in omega (arith, most, all));
        different = λ i j here there equal. elim (cases_order i j) [
          | inl same ↦ same
          | inr (inl less) ↦ absurd (are.numbers.different i j 0 less there equal)
          | inr (inr more) ↦ absurd (are.numbers.different j i 0 more here (sym equal))
        ];
        whole = λ c some within.
            ⊎_elim
            (λ (found : Contains lots c). found)
            (λ (none : IsNone c lots). absurd (no_other c some (omega (arith, within, all)) none))
            (stands c lots);
      }
