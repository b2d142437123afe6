-- Sound lists of ballots, one after the other.
use Rattle.std.proofs.Common.{◌≡◌, ℕ, ◌+◌, ◌≤◌, All, List, [], ◌∷◌, ◌++◌, arith, subst}
use Rattle.std.proofs.lemmas.List.Sums.{sum_by-append, sum_by_push}
use Rattle.std.proofs.lemmas.List.{get_or_append_left, length-append}
use Rattle.std.proofs.lemmas.List.Elements.{All-append, All-push}
use Rattle.plain_ballots.specs.declared.ballot_line.BallotLine.{BallotLine}
use Rattle.plain_ballots.specs.Ballots.{IsSound, ballot_count}
use Rattle.plain_ballots.specs.Ranking.{IsRanking}

pub ballot_count-append : (xs ys : List BallotLine) → ballot_count (xs ++ ys) ≡ ballot_count xs + ballot_count ys
ballot_count-append xs ys = sum_by-append (λ line. line.count) xs ys

pub ballot_count-push :
    (lines : List BallotLine) (line : BallotLine)
    → ballot_count (lines ++ line ∷ []) ≡ ballot_count lines + line.count
ballot_count-push lines line = sum_by_push (λ (l : BallotLine). l.count) lines line

pub IsSound-append :
    (n : ℕ) (xs ys : List BallotLine) → IsSound n xs → IsSound n ys
    → ballot_count xs + ballot_count ys ≤ 999999999 → IsSound n (xs ++ ys)
IsSound-append n xs ys a b few = record {
  rankings = All-append (λ line. IsRanking n line.ranking) xs ys a.rankings b.rankings;
  counted = All-append (λ line. 1 ≤ line.count) xs ys a.counted b.counted;
  bounded = omega (arith, ballot_count-append xs ys);
}

pub IsSound-push :
    (n : ℕ) (lines : List BallotLine) (line : BallotLine) → IsSound n lines → IsRanking n line.ranking
    → 1 ≤ line.count → ballot_count lines + line.count ≤ 999999999 → IsSound n (lines ++ line ∷ [])
IsSound-push n lines line sound ranking counted few = record {
  rankings = All-push (λ (l : BallotLine). IsRanking n l.ranking) lines line sound.rankings ranking;
  counted = All-push (λ (l : BallotLine). 1 ≤ l.count) lines line sound.counted counted;
  bounded = omega (arith, ballot_count-push lines line);
}

-- what holds of all lines holds of those before the last
All-front :
    (P : BallotLine → Type 0) (lines : List BallotLine) (line : BallotLine) → All P (lines ++ line ∷ [])
    → All P lines
All-front P lines line all k d inside =
    subst P (get_or_append_left lines (line ∷ []) d k inside)
    (all k d (omega (arith, inside, length-append lines (line ∷ []))))

pub IsSound-front : (n : ℕ) (lines : List BallotLine) (line : BallotLine) → IsSound n (lines ++ line ∷ []) → IsSound n lines
IsSound-front n lines line sound = record {
  rankings = All-front (λ (l : BallotLine). IsRanking n l.ranking) lines line sound.rankings;
  counted = All-front (λ (l : BallotLine). 1 ≤ l.count) lines line sound.counted;
  bounded = omega (arith, ballot_count-push lines line, sound.bounded);
}
