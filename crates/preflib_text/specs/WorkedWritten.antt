-- A text that is written from rankings, worked by hand.
use Rattle.std.specs.Prelude.{◌≡◌, ℕ, List, [], ◌∷◌, ◌++◌, map, codes, All}
use Rattle.plain_ballots.specs.Ballots.{IsSound}
use Rattle.preflib_text.specs.Laws.{SaysBallots}
use Rattle.preflib_text.specs.Worked.{plainly}
use Rattle.preflib_text.specs.Written.{HasVoters, IsHead, RanksSomebody, once, order_line, order_text}

-- two candidates and two voters
abbrev pub two : List ℕ
two =
    codes "# NUMBER ALTERNATIVES: 2\n# NUMBER VOTERS: 2\n# ALTERNATIVE NAME 1: Ann\n# ALTERNATIVE NAME 2: Ben\n"

-- a ranking of both, and one of the second alone
abbrev pub two_rankings : List (List ℕ)
two_rankings = (1 ∷ 2 ∷ []) ∷ (2 ∷ []) ∷ []

pub record WorkedWritten : Type 0 where
  pub line : order_line (record { count = 12; ranking = 10 ∷ 3 ∷ [] }) ≡ codes "12: 10,3"
  pub lines : order_text (map once two_rankings) ≡ codes "1: 1,2\n1: 2\n"
  pub head : IsHead plainly two 2
  pub voters : HasVoters two 2
  pub sound : IsSound 2 (map once two_rankings)
  pub somebody : All RanksSomebody (map once two_rankings)
  pub says : SaysBallots plainly (two ++ codes "1: 1,2\n1: 2\n") two_rankings
