-- Texts whose orders are written from ballots.
use Rattle.std.specs.Prelude.{◌≡◌, ℕ, ◌≤◌, nat_eq, true, List, [], ◌∷◌, ◌++◌, length, map, decimal, All, Some, None}
use Rattle.std.specs.List.{ends_with, flat_map, join_with_byte}
use Rattle.plain_ballots.specs.Ballots.{IsSound, ballot_count, plain}
use Rattle.plain_ballots.specs.Ranking.{IsRanking}
use Rattle.plain_ballots.specs.declared.ballot_line.BallotLine.{BallotLine}
use Rattle.plain_ballots.specs.declared.limits.TheConstants.{MOST_BALLOTS}
use Rattle.preflib_text.specs.Asked.{Asked}
use Rattle.preflib_text.specs.Ballots.{metadata, order_lines, entries, line_behind}
use Rattle.preflib_text.specs.Head.{candidates, voters, head_fault}
use Rattle.preflib_text.specs.Laws.{SaysBallots}
use Rattle.preflib_text.specs.Refusals.{metadata_faults}

-- metadata without a fault, which name n candidates
pub record HasMetadata (asked : Asked) (bytes : List ℕ) (n : ℕ) : Type 0 where
  pub sound : All (λ fault. fault ≡ None) (metadata_faults asked (metadata bytes))
  pub whole_sound : head_fault asked (entries bytes) (line_behind bytes) ≡ None
  pub candidates_are : candidates (entries bytes) ≡ n

-- where the metadata say how many voters there are, they say this number
abbrev pub HasVoters : List ℕ → ℕ → Type 0
HasVoters bytes n = (said : ℕ) → voters (entries bytes) ≡ Some said → said ≡ n

-- the order of some equal ballots: how many they are, a colon (58), a space (32), and their candidates by rank with a
-- comma (44) between each two
abbrev pub order_line : BallotLine → List ℕ
order_line line = decimal line.count ++ 58 ∷ 32 ∷ join_with_byte 44 (map decimal line.ranking)

-- the lines after the metadata, whatever ends them, are just these orders, one after another
abbrev pub HasOrders : List ℕ → List BallotLine → Type 0
HasOrders bytes orders = map (λ line. line.bytes) (order_lines bytes) ≡ map order_line orders

-- an order ranks somebody
abbrev pub RanksSomebody : BallotLine → Type 0
RanksSomebody line = 1 ≤ length line.ranking

-- a ranking that stands for one ballot
abbrev pub once : List ℕ → BallotLine
once ranks = record { count = 1; ranking = ranks }

-- metadata alone; a line feed (10) ends the last of them, so that orders can stand after it
pub record IsHead (asked : Asked) (bytes : List ℕ) (n : ℕ) : Type 0 where
  pub sound : HasMetadata asked bytes n
  pub no_orders : order_lines bytes ≡ []
  pub ended : ends_with nat_eq bytes (10 ∷ []) ≡ true

-- orders as lines of a text, each with a line feed (10) after it
abbrev pub order_text : List BallotLine → List ℕ
order_text orders = flat_map (λ order. order_line order ++ 10 ∷ []) orders

-- A text of such orders says just their ballots, whatever becomes of equal ranks.
abbrev pub OrdersSayBallots : Type 0
OrdersSayBallots =
    (asked : Asked) (bytes : List ℕ) (n : ℕ) (orders : List BallotLine)
    → HasMetadata asked bytes n → HasVoters bytes (ballot_count orders) → HasOrders bytes orders
    → IsSound n orders → All RanksSomebody orders → SaysBallots asked bytes (plain orders)

-- A text with an order for each of some rankings says just these.
abbrev pub OrdersSayRankings : Type 0
OrdersSayRankings =
    (asked : Asked) (bytes : List ℕ) (n : ℕ) (rankings : List (List ℕ))
    → HasMetadata asked bytes n → HasVoters bytes (length rankings) → HasOrders bytes (map once rankings)
    → All (IsRanking n) rankings → All (λ ranks. 1 ≤ length ranks) rankings → length rankings ≤ MOST_BALLOTS
    → SaysBallots asked bytes rankings

-- A text that is written from ballots, after its metadata, says just these.
abbrev pub WrittenOrdersSayBallots : Type 0
WrittenOrdersSayBallots =
    (asked : Asked) (head : List ℕ) (n : ℕ) (orders : List BallotLine)
    → IsHead asked head n → HasVoters head (ballot_count orders)
    → IsSound n orders → All RanksSomebody orders → SaysBallots asked (head ++ order_text orders) (plain orders)
