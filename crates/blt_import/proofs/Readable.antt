-- The ballots of lines are rankings of their candidates, and not too many.
use Rattle.std.proofs.Common.{◌≡◌, ℕ, zero, suc, List, [], ◌∷◌, length, All, replicate, subst, arith}
use Rattle.std.proofs.lemmas.List.Elements.{All-nil, All-cons, All-head, All-tail, All-append}
use Rattle.plain_ballots.specs.declared.ballot_line.BallotLine.{BallotLine}
use Rattle.plain_ballots.specs.Ballots.{IsSound, plain}
use Rattle.plain_ballots.specs.Ranking.{IsRanking}
use Rattle.plain_ballots.proofs.PlainLemmas.{length-plain}
use Rattle.candidate_roll.specs.Roll.{RollList}
use Rattle.blt_writer.specs.Laws.{AreBallotsOf}

module _ (n : ℕ) where
  each_ranking : (count : ℕ) (ranking : List ℕ) → IsRanking n ranking → All (IsRanking n) (replicate count ranking)
  each_ranking zero ranking is = All-nil (IsRanking n)
  each_ranking (suc count) ranking is =
      All-cons (IsRanking n) ranking (replicate count ranking) is (each_ranking count ranking is)

  all_rankings : (lines : List BallotLine) → All (λ line. IsRanking n line.ranking) lines → All (IsRanking n) (plain lines)
  all_rankings [] all = All-nil (IsRanking n)
  all_rankings (line ∷ lines) all =
      All-append (IsRanking n) (replicate line.count line.ranking) (plain lines)
      (each_ranking line.count line.ranking (All-head (λ (l : BallotLine). IsRanking n l.ranking) line lines all))
      (all_rankings lines (All-tail (λ (l : BallotLine). IsRanking n l.ranking) line lines all))

pub ballots_of : (roll : RollList) (n : ℕ) (lines : List BallotLine) → n ≡ length roll.names → IsSound n lines
    → AreBallotsOf roll (plain lines)
ballots_of roll n lines same sound = record {
  rankings = subst (λ (m : ℕ). All (IsRanking m) (plain lines)) same (all_rankings n lines sound.rankings);
  few = let long = length-plain lines in let few = sound.bounded in omega (arith, long, few);
}
