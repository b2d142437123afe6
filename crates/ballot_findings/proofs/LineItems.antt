-- A line of sound lines, at its place.
use Rattle.std.proofs.Common.{◌≡◌, ◌∙◌, ℕ, ◌+◌, ◌*◌, ◌<◌, ◌≤◌, List, [], ◌∷◌, ◌++◌, length, take, get_or, ap}
use Rattle.std.proofs.Common.{arith, subst, sym}
use Rattle.std.proofs.lemmas.List.{get_or-map, take_more}
use Rattle.std.proofs.lemmas.List.Sums.{sum_by_more_le}
use Rattle.std.proofs.lemmas.Nat.{mul-le}
use Rattle.plain_ballots.specs.declared.ballot_line.BallotLine.{BallotLine}
use Rattle.plain_ballots.specs.declared.limits.TheConstants.{MOST_BALLOTS, MOST_CANDIDATES}
use Rattle.plain_ballots.specs.Ballots.{IsSound, ballot_count}
use Rattle.plain_ballots.specs.Ranking.{IsRanking}
use Rattle.plain_ballots.proofs.RankingLemmas.{length-IsRanking}
use Rattle.ballot_findings.specs.Counts.{rankings}

pub ranking_at :
    (n : ℕ) (lines : List BallotLine) (i : ℕ) (line : BallotLine) → IsSound n lines → i < length lines
    → line ≡ get_or lines i line → IsRanking n line.ranking
ranking_at n lines i line sound inside at =
    subst (λ (l : BallotLine). IsRanking n l.ranking) (sym at) (sound.rankings i line inside)

pub counted_at :
    (n : ℕ) (lines : List BallotLine) (i : ℕ) (line : BallotLine) → IsSound n lines → i < length lines
    → line ≡ get_or lines i line → 1 ≤ line.count
counted_at n lines i line sound inside at =
    subst (λ (l : BallotLine). 1 ≤ l.count) (sym at) (sound.counted i line inside)

pub room_at :
    (n : ℕ) (lines : List BallotLine) (i : ℕ) (line : BallotLine) → IsSound n lines → i < length lines
    → line ≡ get_or lines i line → ballot_count (take i lines) + line.count ≤ MOST_BALLOTS
room_at n lines i line sound inside at =
    let so_far = sum_by_more_le (λ (l : BallotLine). l.count) lines i line inside in
    let here = ap (λ (l : BallotLine). l.count) at in
    omega (arith, so_far, here, sound.bounded)

-- one line more
pub lines_more :
    (lines : List BallotLine) (i : ℕ) (line : BallotLine) → i < length lines → line ≡ get_or lines i line
    → take i lines ++ line ∷ [] ≡ take (i + 1) lines
lines_more lines i line inside at =
    ap (λ (l : BallotLine). take i lines ++ l ∷ []) at ∙ sym (take_more lines i line inside)

pub said_at :
    (lines : List BallotLine) (i : ℕ) (line : BallotLine) → i < length lines → line ≡ get_or lines i line
    → line.ranking ≡ get_or (rankings lines) i []
said_at lines i line inside at =
    ap (λ (l : BallotLine). l.ranking) at ∙ sym (get_or-map (λ (l : BallotLine). l.ranking) lines i line [] inside)

-- the ranks of equal ballots
pub ranks_bound :
    (n count : ℕ) (ranking : List ℕ) → IsRanking n ranking → n ≤ MOST_CANDIDATES
    → count * length ranking ≤ MOST_CANDIDATES * count
ranks_bound n count ranking is few =
    let short = length-IsRanking n ranking is in
    let most = mul-le count (length ranking) count MOST_CANDIDATES (omega arith) (omega (arith, short, few)) in
    omega (arith, most)
