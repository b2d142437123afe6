-- One rank more in front of a list that has room for as many as there are candidates.
use Rattle.std.proofs.Common.{◌≡◌, ℕ, ◌+◌, ◌<◌, ◌≤◌, List, [], ◌∷◌, ◌++◌, length, take, slice_set, set, Bool}
use Rattle.std.proofs.Common.{true, false, ◌==◌, sym, ◌∙◌, ap, subst, arith, length-append}
use Rattle.std.specs.List.{list_any}
use Rattle.std.proofs.lemmas.List.{length-take-le, take_more_set}
use Rattle.plain_ballots.specs.Ranking.{IsRanking}
use Rattle.plain_ballots.proofs.RankingLemmas.{length-IsRanking}
use Rattle.blt_reader.specs.Reads.{Marks}
use Rattle.blt_reader.proofs.BallotSoundness.{one_rank_more}
use Rattle.blt_reader.proofs.LineSteps.{one_marked_more}

module _ (candidates len n : ℕ) (ranks : List ℕ) (room : length ranks ≡ candidates) (within : len ≤ candidates)
    (ranking : IsRanking candidates (take len ranks)) (some : 1 ≤ n) (inside : n ≤ candidates)
    (once : list_any (λ r. r == n) (take len ranks) ≡ false) where
  one_more_ranked : IsRanking candidates (take len ranks ++ n ∷ [])
  one_more_ranked = one_rank_more candidates (take len ranks) n ranking some inside once

  -- there is room for one that wasn't named
  pub room_for_one : len < length ranks
  room_for_one =
      omega (
        arith,
        room,
        length-IsRanking candidates (take len ranks ++ n ∷ []) one_more_ranked,
        length-append (take len ranks) (n ∷ []),
        length-take-le len ranks (omega (arith, room, within)),
      )

  pub one_put_in : take (len + 1) (slice_set ranks len n) ≡ take len ranks ++ n ∷ []
  one_put_in = take_more_set ranks len n room_for_one

  pub one_put_in_ranked : IsRanking candidates (take (len + 1) (slice_set ranks len n))
  one_put_in_ranked = subst (IsRanking candidates) (sym one_put_in) one_more_ranked

  pub one_put_in_marked :
      (named : List Bool) → length named ≡ candidates + 1 → Marks candidates named (take len ranks)
      → Marks candidates (set named n true) (take (len + 1) (slice_set ranks len n))
  one_put_in_marked named numbers marks m small =
      one_marked_more candidates named (take len ranks) n (omega (arith, numbers, inside)) marks m small
      ∙ ap (λ (l : List ℕ). list_any (λ r. r == m) l) (sym one_put_in)
