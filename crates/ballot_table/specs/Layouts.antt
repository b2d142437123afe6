-- Rows of each layout that say a ranking.
use Rattle.std.specs.Prelude.{◌≡◌, ◌≢◌, ℕ, ◌+◌, ◌-◌, ◌==◌, ◌≤◌, List, [], ◌∷◌, ◌++◌, length, map, replicate, position, All}
use Rattle.std.specs.Prelude.{Option, Some, None, Ok}
use Rattle.std.specs.List.{join_with_byte, range_with_len}
use Rattle.std.specs.Option.{option_map}
use Rattle.plain_ballots.specs.declared.limits.TheConstants.{MOST_CANDIDATES}
use Rattle.plain_ballots.specs.Ranking.{IsRanking}
use Rattle.ballot_marks.specs.declared.says.Says.TheVariants.{One}
use Rattle.ballot_marks.specs.Laws.{strict}
use Rattle.ballot_table.specs.declared.column.Column.{Column}
use Rattle.ballot_table.specs.declared.column.Column.TheVariants as column
use Rattle.ballot_table.specs.declared.empty.Empty.TheVariants.{Keep}
use Rattle.ballot_table.specs.declared.layout.Layout.{Layout}
use Rattle.ballot_table.specs.declared.layout.Layout.TheVariants as layout
use Rattle.ballot_table.specs.Asked.{Asked}
use Rattle.ballot_table.specs.Texts.{trimmed}
use Rattle.ballot_table.specs.Cells.{rank_in, says_in}
use Rattle.ballot_table.specs.Head.{columns, head_fault}
use Rattle.ballot_table.specs.Laws.{IsCounted}

-- a head without a fault, and its columns
pub record HasColumns (asked : Asked) (head : List (List ℕ)) (kind : Layout) (cols : List Column) : Type 0 where
  pub layout : asked.layout ≡ kind
  pub sound : head_fault asked head ≡ None
  pub columns_are : columns asked head ≡ cols

-- each of n candidates has a text that says it
abbrev pub AreNames : Asked → (name : ℕ → List ℕ) → (n : ℕ) → Type 0
AreNames asked name n = (c : ℕ) → 1 ≤ c → c ≤ n → says_in asked (name c) ≡ Ok (Some (One c))

-- each of n ranks has a text that says it
abbrev pub AreRankTexts : Asked → (text : ℕ → List ℕ) → (n : ℕ) → Type 0
AreRankTexts asked text n = (rank : ℕ) → 1 ≤ rank → rank ≤ n → rank_in asked (text rank) ≡ Ok (Some rank)

-- a cell for each rank: the names of those who are ranked, and blank cells after them
abbrev pub choices_row : (name : ℕ → List ℕ) → (n : ℕ) → List ℕ → List (List ℕ)
choices_row name n ranks = map name ranks ++ replicate (n - length ranks) []

-- one cell: the names of those who are ranked, with a semicolon (59) between each two
abbrev pub list_row : (name : ℕ → List ℕ) → List ℕ → List (List ℕ)
list_row name ranks = join_with_byte 59 (map name ranks) ∷ []

-- the rank of a candidate, from 1
abbrev pub rank_of : List ℕ → ℕ → Option ℕ
rank_of ranks c = option_map (λ i. i + 1) (position (λ d. d == c) ranks)

abbrev pub rank_cell : (text : ℕ → List ℕ) → Option ℕ → List ℕ
rank_cell text None = []
rank_cell text (Some rank) = text rank

-- a cell for each candidate: its rank, and a blank cell where it has none
abbrev pub ranks_row : (text : ℕ → List ℕ) → (n : ℕ) → List ℕ → List (List ℕ)
ranks_row text n ranks = map (λ c. rank_cell text (rank_of ranks c)) (range_with_len 1 n)

-- a name that can stand in a list: nothing to trim, and no semicolon
pub record StandsInList (name : List ℕ) : Type 0 where
  pub trimmed_is : trimmed name ≡ name
  pub no_semicolon : All (λ b. b ≢ 59) name

-- The rows are a table of just these ballots, also where whatever is not plain is refused.
pub record SayRankings (asked : Asked) (head : List (List ℕ)) (rows : List (List (List ℕ)))
    (rankings : List (List ℕ)) : Type 0
  where
    pub counted : IsCounted asked strict Keep head rows
    pub same : counted.rankings ≡ rankings

abbrev pub ChoicesSayRankings : Type 0
ChoicesSayRankings =
    (asked : Asked) (head : List (List ℕ)) (name : ℕ → List ℕ) (n : ℕ) (rankings : List (List ℕ))
    → HasColumns asked head layout.Choices (map column.Rank (range_with_len 1 n)) → AreNames asked name n
    → All (IsRanking n) rankings → SayRankings asked head (map (choices_row name n) rankings) rankings

abbrev pub ListsSayRankings : Type 0
ListsSayRankings =
    (asked : Asked) (head : List (List ℕ)) (name : ℕ → List ℕ) (n : ℕ) (rankings : List (List ℕ))
    → HasColumns asked head layout.List (column.List ∷ []) → AreNames asked name n
    → ((c : ℕ) → 1 ≤ c → c ≤ n → StandsInList (name c))
    → All (IsRanking n) rankings → SayRankings asked head (map (list_row name) rankings) rankings

abbrev pub RanksSayRankings : Type 0
RanksSayRankings =
    (asked : Asked) (head : List (List ℕ)) (text : ℕ → List ℕ) (n : ℕ) (rankings : List (List ℕ))
    → HasColumns asked head layout.Ranks (map column.Candidate (range_with_len 1 n)) → n ≤ MOST_CANDIDATES
    → AreRankTexts asked text n → All (IsRanking n) rankings
    → SayRankings asked head (map (ranks_row text n) rankings) rankings
