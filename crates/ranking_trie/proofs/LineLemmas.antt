-- Lines of ballots, one after another.
use Rattle.std.proofs.Common.{◌≡◌, ℕ, ◌+◌, ◌*◌, ◌≤◌, ◌<◌, List, [], ◌∷◌, ◌++◌, length, get_or, take, drop}
use Rattle.std.proofs.Common.{replicate, append_assoc, arith, sym, subst, ap, ◌∙◌}
use Rattle.std.specs.List.{All}
use Rattle.std.specs.List.Sorted.{IsPermutation}
use Rattle.std.proofs.lemmas.List.{flat_map_more, take-append-drop, take_more, length-append, length-replicate}
use Rattle.std.proofs.lemmas.List.Sorted.{sum_by-IsPermutation, IsPermutation-trans}
use Rattle.std.proofs.lemmas.List.Sorted.{IsPermutation-append_right, length_permutation}
use Rattle.std.proofs.lemmas.List.Elements.{All-head, All-tail, All-weaker}
use Rattle.std.proofs.lemmas.Grind.{flat_map-append}
use Rattle.std.proofs.lemmas.List.Sums.{sum_by-cons, sum_by-le, sum_by_more, sum_by_more_le}
use Rattle.plain_ballots.specs.declared.ballot_line.BallotLine.{BallotLine}
use Rattle.plain_ballots.specs.Ballots.{plain, ballot_count, IsSound}
use Rattle.plain_ballots.specs.Ranking.{IsRanking}
use Rattle.ranking_trie.specs.Lines.{rank_count, visit_count}
use Rattle.ranking_trie.specs.BallotBag.{count_of}
use Rattle.ranking_trie.proofs.CountLemmas.{one_for, count_of-append, count_of-own}
use Rattle.plain_ballots.proofs.RankingLemmas.{length-IsRanking}
use Rattle.ranking_trie.proofs.BagLemmas.{IsPermutation-shift}

-- the ballots of one line
abbrev pub ballots_of : BallotLine → List (List ℕ)
ballots_of line = replicate line.count line.ranking

-- the line at i comes after those before it
pub plain_more :
    (lines : List BallotLine) (i : ℕ) (line : BallotLine) → i < length lines → line ≡ get_or lines i line
    → plain (take (i + 1) lines) ≡ plain (take i lines) ++ ballots_of line
plain_more lines i line inside at =
    ap plain (take_more lines i line inside ∙ ap (λ (l : BallotLine). take i lines ++ l ∷ []) (sym at))
    ∙ sym (flat_map_more ballots_of [] (take i lines) line)

pub ranks_more :
    (lines : List BallotLine) (i : ℕ) (line : BallotLine) → i < length lines → line ≡ get_or lines i line
    → rank_count (take (i + 1) lines) ≡ rank_count (take i lines) + length line.ranking
ranks_more lines i line inside at =
    sum_by_more (λ (l : BallotLine). length l.ranking) lines i line inside
    ∙ ap (λ (l : BallotLine). rank_count (take i lines) + length l.ranking) (sym at)

pub visits_more :
    (lines : List BallotLine) (i : ℕ) (line : BallotLine) → i < length lines → line ≡ get_or lines i line
    → visit_count (take (i + 1) lines) ≡ visit_count (take i lines) + (length line.ranking + 1)
visits_more lines i line inside at =
    sum_by_more (λ (l : BallotLine). length l.ranking + 1) lines i line inside
    ∙ ap (λ (l : BallotLine). visit_count (take i lines) + (length l.ranking + 1)) (sym at)

-- a bag with the ballots of one more line
pub line_added :
    (old now new : List (List ℕ)) (lines : List BallotLine) (i : ℕ) (line : BallotLine) → i < length lines
    → line ≡ get_or lines i line → IsPermutation now (plain (take i lines) ++ old)
    → IsPermutation new (ballots_of line ++ now) → IsPermutation new (plain (take (i + 1) lines) ++ old)
line_added old now new lines i line inside at so_far here =
    let done = plain (take i lines) in
    let front =
    IsPermutation-trans new (ballots_of line ++ now) (ballots_of line ++ (done ++ old)) here
    (IsPermutation-append_right (ballots_of line) now (done ++ old) so_far) in
    let moved =
    IsPermutation-trans new (ballots_of line ++ (done ++ old)) (done ++ (ballots_of line ++ old)) front
    (IsPermutation-shift (ballots_of line) done old) in
    subst (λ (l : List (List ℕ)). IsPermutation new l)
    (sym (append_assoc done (ballots_of line) old)
    ∙ ap (λ (l : List (List ℕ)). l ++ old) (sym (plain_more lines i line inside at))) moved

-- the bag of one more line is larger by its count
pub line_counted :
    (old : ℕ) (now new : List (List ℕ)) (lines : List BallotLine) (i : ℕ) (line : BallotLine)
    → i < length lines → line ≡ get_or lines i line → length now ≡ old + ballot_count (take i lines)
    → IsPermutation new (ballots_of line ++ now) → length new ≡ old + ballot_count (take (i + 1) lines)
line_counted old now new lines i line inside at so_far here =
    let more : ballot_count (take (i + 1) lines) ≡ ballot_count (take i lines) + line.count =
    sum_by_more (λ (l : BallotLine). l.count) lines i line inside
    ∙ ap (λ (l : BallotLine). ballot_count (take i lines) + l.count) (sym at) in
    let two = length-append (ballots_of line) now in
    let one : length (ballots_of line) ≡ line.count = length-replicate line.count line.ranking in
    omega (arith, length_permutation new (ballots_of line ++ now) here)

-- and smaller by its count without them
pub line_uncounted :
    (old : ℕ) (now new : List (List ℕ)) (lines : List BallotLine) (i : ℕ) (line : BallotLine)
    → i < length lines → line ≡ get_or lines i line → old ≡ length now + ballot_count (take i lines)
    → IsPermutation now (ballots_of line ++ new) → old ≡ length new + ballot_count (take (i + 1) lines)
line_uncounted old now new lines i line inside at so_far here =
    let more : ballot_count (take (i + 1) lines) ≡ ballot_count (take i lines) + line.count =
    sum_by_more (λ (l : BallotLine). l.count) lines i line inside
    ∙ ap (λ (l : BallotLine). ballot_count (take i lines) + l.count) (sym at) in
    let two = length-append (ballots_of line) new in
    let one : length (ballots_of line) ≡ line.count = length-replicate line.count line.ranking in
    omega (arith, length_permutation now (ballots_of line ++ new) here)

pub count_left :
    (lines : List BallotLine) (i : ℕ) (line : BallotLine) → i < length lines → line ≡ get_or lines i line
    → ballot_count (take i lines) + line.count ≤ ballot_count lines
count_left lines i line inside at =
    subst (λ (l : BallotLine). ballot_count (take i lines) + l.count ≤ ballot_count lines) (sym at)
    (sum_by_more_le (λ (l : BallotLine). l.count) lines i line inside)

pub ranks_left :
    (lines : List BallotLine) (i : ℕ) (line : BallotLine) → i < length lines → line ≡ get_or lines i line
    → rank_count (take i lines) + length line.ranking ≤ rank_count lines
ranks_left lines i line inside at =
    subst (λ (l : BallotLine). rank_count (take i lines) + length l.ranking ≤ rank_count lines) (sym at)
    (sum_by_more_le (λ (l : BallotLine). length l.ranking) lines i line inside)

pub ranking_at :
    (n : ℕ) (lines : List BallotLine) (i : ℕ) (line : BallotLine) → IsSound n lines → i < length lines
    → line ≡ get_or lines i line → IsRanking n line.ranking
ranking_at n lines i line sound inside at =
    subst (λ (l : BallotLine). IsRanking n l.ranking) (sym at) (sound.rankings i line inside)

-- ballots that a bag holds are still there when those of earlier lines have been taken out
pub line_held :
    (old now others : List (List ℕ)) (lines : List BallotLine) (i : ℕ) (line : BallotLine) → i < length lines
    → line ≡ get_or lines i line → IsPermutation old (plain lines ++ others)
    → IsPermutation old (plain (take i lines) ++ now) → line.count ≤ count_of line.ranking now
line_held old now others lines i line inside at held so_far =
    let r = line.ranking in
    let ballots_and :
    (ls : List BallotLine) (rest : List (List ℕ)) → IsPermutation old (plain ls ++ rest)
    → count_of r (plain ls) + count_of r rest ≡ count_of r old =
    λ ls rest same. sym (count_of-append r (plain ls) rest) ∙ sum_by-IsPermutation (one_for r) old (plain ls ++ rest) same in
    let all = ballots_and lines others held in
    let here = ballots_and (take i lines) now so_far in
    let split : plain lines ≡ plain (take (i + 1) lines) ++ plain (drop (i + 1) lines) =
    ap plain (sym (take-append-drop (i + 1) lines)) ∙ flat_map-append ballots_of (take (i + 1) lines) (drop (i + 1) lines) in
    let parts :
    count_of r (plain lines)
    ≡ count_of r (plain (take (i + 1) lines)) + count_of r (plain (drop (i + 1) lines)) =
    ap (count_of r) split ∙ count_of-append r (plain (take (i + 1) lines)) (plain (drop (i + 1) lines)) in
    let more : count_of r (plain (take (i + 1) lines)) ≡ count_of r (plain (take i lines)) + count_of r (ballots_of line) =
    ap (count_of r) (plain_more lines i line inside at) ∙ count_of-append r (plain (take i lines)) (ballots_of line) in
    let own : count_of r (ballots_of line) ≡ line.count = count_of-own line.count r in
    omega arith

-- the ballots of one more line are taken out
pub line_removed :
    (old now new : List (List ℕ)) (lines : List BallotLine) (i : ℕ) (line : BallotLine) → i < length lines
    → line ≡ get_or lines i line → IsPermutation old (plain (take i lines) ++ now)
    → IsPermutation now (ballots_of line ++ new) → IsPermutation old (plain (take (i + 1) lines) ++ new)
line_removed old now new lines i line inside at so_far here =
    let done = plain (take i lines) in
    let both =
    IsPermutation-trans old (done ++ now) (done ++ (ballots_of line ++ new)) so_far
    (IsPermutation-append_right done now (ballots_of line ++ new) here) in
    subst (λ (l : List (List ℕ)). IsPermutation old l)
    (sym (append_assoc done (ballots_of line) new)
    ∙ ap (λ (l : List (List ℕ)). l ++ new) (sym (plain_more lines i line inside at))) both

-- each line has a ballot
lines_few : (lines : List BallotLine) → All (λ line. 1 ≤ line.count) lines → length lines ≤ ballot_count lines
lines_few [] counted = omega arith
lines_few (line ∷ lines) counted =
    let here = All-head (λ (l : BallotLine). 1 ≤ l.count) line lines counted in
    omega (
      arith,
      lines_few lines (All-tail (λ (l : BallotLine). 1 ≤ l.count) line lines counted),
      sum_by-cons (λ (l : BallotLine). l.count) line lines,
    )

-- and at most as many ranks as there are candidates, so that they can be counted
pub few_ranks :
    (n : ℕ) (lines : List BallotLine) → n < 4294967296 → IsSound n lines
    → rank_count lines ≤ 4294967295 * 999999999
few_ranks n lines some sound =
    let short : All (λ (l : BallotLine). length l.ranking ≤ 4294967295) lines =
    All-weaker (λ (l : BallotLine). IsRanking n l.ranking) (λ (l : BallotLine). length l.ranking ≤ 4294967295)
    (λ line ranking. omega (arith, length-IsRanking n line.ranking ranking)) lines sound.rankings in
    omega (
      arith,
      sum_by-le (λ (l : BallotLine). length l.ranking) 4294967295 lines short,
      lines_few lines sound.counted,
      sound.bounded,
    )
