-- Lines of ballots: what they cost in a trie, and those of a forest.
use Rattle.std.specs.Prelude.{ℕ, ◌+◌, List, [], ◌∷◌, ◌++◌, length, map, sum_by, zero, suc}
use Rattle.std.specs.List.Sorted.{IsStrictlySortedBy}
use Rattle.std.specs.Ordering.{nat_cmp}
use Rattle.std.specs.Cmp.Lexicographic.{slice_cmp}
use Rattle.plain_ballots.specs.declared.ballot_line.BallotLine.{BallotLine}
use Rattle.ranking_trie.specs.Forest.{Forest, Empty, Grow}

-- the ranks of all lines: so many nodes are new at most
abbrev pub rank_count : List BallotLine → ℕ
rank_count lines = sum_by (λ line. length line.ranking) lines

-- the nodes that are visited: for each line the root, and one for each rank
abbrev pub visit_count : List BallotLine → ℕ
visit_count lines = sum_by (λ line. length line.ranking + 1) lines

-- different rankings, in lexicographic order
abbrev pub HaveRisingRankings : List BallotLine → Type 0
HaveRisingRankings lines = IsStrictlySortedBy (slice_cmp nat_cmp) (map (λ line. line.ranking) lines)

-- the line of as many ballots with this ranking, if there are any
abbrev pub line_of : (count : ℕ) → (ranking : List ℕ) → List BallotLine
line_of zero ranking = []
line_of (suc n) ranking = record { count = suc n; ranking = ranking } ∷ []

-- a line whose ranking goes on after other ranks
abbrev pub behind : (ranks : List ℕ) → BallotLine → BallotLine
behind ranks line = record { count = line.count; ranking = ranks ++ line.ranking }

-- a node's lines: that of the ballots that end at it, and those of the ballots that go on below it
abbrev pub node_lines : (candidate ends : ℕ) → (inner : List BallotLine) → List BallotLine
node_lines c n inner = map (behind (c ∷ [])) (line_of n [] ++ inner)

-- the lines of siblings and of all below them, one for each ranking
abbrev pub lines_of : Forest → List BallotLine
lines_of Empty = []
lines_of (Grow c n p inner next) = node_lines c n (lines_of inner) ++ lines_of next
