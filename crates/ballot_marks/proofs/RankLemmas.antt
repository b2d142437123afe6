-- A ranking with one more candidate.
use Rattle.std.proofs.Common.{◌≡◌, ◌≢◌, ℕ, ◌+◌, ◌<◌, ◌≤◌, false, List, [], ◌∷◌, ◌++◌, length, take, set}
use Rattle.std.proofs.Common.{arith, eq-eqb, ◌∙◌, sym, subst, ◌==◌}
use Rattle.std.proofs.lemmas.Bool.{false≢true}
use Rattle.std.proofs.lemmas.List.{length_push, length-take, take_more_set}
use Rattle.std.proofs.lemmas.List.Elements.{All-push}
use Rattle.std.proofs.lemmas.List.Folds.{list_any_at}
use Rattle.std.proofs.lemmas.List.Quantifiers.{all_pairs_push}
use Rattle.plain_ballots.specs.Ranking.{IsRanking}
use Rattle.plain_ballots.proofs.RankingLemmas.{length-IsRanking}
use Rattle.ballot_marks.specs.Marks.{is_among}

IsRanking-push :
    (n : ℕ) (ranks : List ℕ) (c : ℕ) → IsRanking n ranks → (1 ≤ c) × (c ≤ n) → is_among ranks c ≡ false
    → IsRanking n (ranks ++ c ∷ [])
IsRanking-push n ranks c ranking candidate new = record {
  numbers = All-push (λ (r : ℕ). (1 ≤ r) × (r ≤ n)) ranks c ranking.numbers candidate;
  different =
      all_pairs_push (λ (a b : ℕ). a ≢ b) ranks c ranking.different (λ k d inside same.
      false≢true (sym new ∙ list_any_at (λ e. e == c) ranks k d inside (eq-eqb _ _ same)));
}

-- There is room for one more candidate, who makes a ranking of the others.
pub record Fits (n len c : ℕ) (ranks : List ℕ) : Type 0 where
  pub room : len < length ranks
  pub pushed : take (len + 1) (set ranks len c) ≡ take len ranks ++ c ∷ []
  pub ranking : IsRanking n (take (len + 1) (set ranks len c))

pub Fits-new :
    (n len c : ℕ) (ranks : List ℕ) → n ≤ length ranks → len ≤ length ranks
    → IsRanking n (take len ranks) → (1 ≤ c) × (c ≤ n) → is_among (take len ranks) c ≡ false
    → Fits n len c ranks
Fits-new n len c ranks few inside ranking candidate new =
    let more : IsRanking n (take len ranks ++ c ∷ []) =
    IsRanking-push n (take len ranks) c ranking candidate new in
    let room : len < length ranks =
    omega (
      arith,
      length-IsRanking n (take len ranks ++ c ∷ []) more,
      length_push (take len ranks) c,
      length-take len ranks,
    ) in
    record {
      room = room;
      pushed = take_more_set ranks len c room;
      ranking = subst (IsRanking n) (sym (take_more_set ranks len c room)) more;
    }
