-- Lines that come in.
use Rattle.std.proofs.Common.{◌≡◌, ℕ, ◌+◌, ◌≤◌, ◌<◌, List, [], ◌∷◌, ◌++◌, All, length, get_or, set, take, drop}
use Rattle.std.proofs.Common.{replicate, arith, refl, ap, sym, ◌∙◌, subst, append_assoc}
use Rattle.std.proofs.lemmas.List.{length-append, map-append, take-append-drop, take-set, drop-set, drop_more}
use Rattle.std.proofs.lemmas.List.Elements.{All-append, All-push, All-set}
use Rattle.std.proofs.lemmas.List.Sums.{sum_by-cons, get_or-le-sum_by}
use Rattle.plain_ballots.specs.declared.ballot_line.BallotLine.{BallotLine}
use Rattle.plain_ballots.specs.Ballots.{ballot_count, plain}
use Rattle.plain_ballots.specs.Ranking.{IsRanking}
use Rattle.plain_ballots.proofs.RankingLemmas.{length-IsRanking}
use Rattle.packed_ballots.specs.declared.packed_line.PackedLine.{PackedLine}
use Rattle.packed_ballots.specs.Packed.{rest_of, rests, line_count, line_of, lines_of, front_of, IsKept, IsPacked, HasAt}
use Rattle.packed_ballots.specs.Taking.{AddsTo}
use Rattle.packed_ballots.proofs.Bytes.{rest_kept, rest_new, lines_kept}

-- lines of rankings of n candidates, and a new one after them
module _ (n : ℕ) (bytes : List ℕ) (lines : List PackedLine) (ranking : List ℕ) (line : PackedLine) (few : n ≤ 250)
    (is : IsPacked n bytes lines) (ranks : IsRanking n ranking) (start : line.start ≡ length bytes)
    (some : 1 ≤ line.count) (front : line.front ≡ front_of ranking) where
  positive : All (λ r. 1 ≤ r) ranking
  positive k d inside = (ranks.numbers k d inside).0

  small : All (λ r. r ≤ n) ranking
  small k d inside = (ranks.numbers k d inside).1

  own : rest_of (bytes ++ (ranking ++ 0 ∷ [])) 0 line ≡ ranking
  own = rest_new bytes ranking line start positive

  same_rest :
      (k : ℕ) (d : PackedLine) → k < length lines
      → rest_of (bytes ++ (ranking ++ 0 ∷ [])) 0 (get_or lines k d) ≡ rest_of bytes 0 (get_or lines k d)
  same_rest k d inside = rest_kept bytes (ranking ++ 0 ∷ []) (get_or lines k d) (is.kept k d inside)

  pub packed_longer : IsPacked n (bytes ++ (ranking ++ 0 ∷ [])) (lines ++ line ∷ [])
  packed_longer =
      let new = bytes ++ (ranking ++ 0 ∷ []) in
      let ended : new ≡ (bytes ++ ranking) ++ 0 ∷ [] = sym (append_assoc bytes ranking (0 ∷ [])) in
      let long = length-append bytes ranking in
      let zero_is_small : 0 ≤ n = omega arith in
      record {
        numbers =
            All-append (λ (c : ℕ). c ≤ n) bytes (ranking ++ 0 ∷ []) is.numbers
            (All-push (λ (c : ℕ). c ≤ n) ranking 0 small zero_is_small);
        kept = All-push (IsKept new) lines line
            (λ k d inside. let before =
            is.kept k d inside in
            let size =
            ap length before.ended in
            let two =
            length-append before.front (0 ∷ []) in
            record {
              front = bytes ++ ranking;
              ended = ended;
              inside = omega (arith, before.inside, size, two, long);
            })
            (record { front = bytes ++ ranking; ended = ended; inside = omega (arith, start, long) });
        short =
            All-push (λ (l : PackedLine). length (rest_of new 0 l) ≤ 250) lines line
            (λ k d inside. omega (arith, is.short k d inside, ap length (same_rest k d inside)))
            (omega (arith, ap length own, length-IsRanking n ranking ranks, few));
        counted = All-push (λ (l : PackedLine). 1 ≤ l.count) lines line is.counted some;
        fronts =
            All-push (λ (l : PackedLine). l.front ≡ front_of (rest_of new 0 l)) lines line
            (λ k d inside. is.fronts k d inside ∙ ap front_of (sym (same_rest k d inside)))
            (front ∙ ap front_of (sym own));
      }

  pub lines_longer :
      lines_of (bytes ++ (ranking ++ 0 ∷ [])) (lines ++ line ∷ [])
      ≡ lines_of bytes lines ++ record { count = line.count; ranking = ranking } ∷ []
  lines_longer =
      let new = bytes ++ (ranking ++ 0 ∷ []) in
      map-append (line_of new) lines (line ∷ [])
      ∙ (ap (λ (l : List BallotLine). l ++ line_of new line ∷ []) (lines_kept bytes (ranking ++ 0 ∷ []) lines is.kept)
      ∙ ap (λ (r : List ℕ). lines_of bytes lines ++ record { count = line.count; ranking = r } ∷ []) own)

-- ---- ballots for a line that is there

module _ (n : ℕ) (bytes : List ℕ) (lines : List PackedLine) (place count : ℕ) (ranking : List ℕ) (one : PackedLine)
    (is : IsPacked n bytes lines) (has : HasAt bytes lines ranking place) (there : one ≡ get_or lines place one) where
  abbrev pub more : PackedLine
  more = record { front = one.front; start = one.start; count = one.count + count }

  -- what holds of all lines holds of it
  of_one : (P : PackedLine → Type 0) → All P lines → P one
  of_one P all = subst P (sym there) (all place one has.inside)

  own_ranking : rest_of bytes 0 one ≡ ranking
  own_ranking = ap (rest_of bytes 0) there ∙ has.same one

  pub packed_more : IsPacked n bytes (set lines place more)
  packed_more =
      let kept : IsKept bytes one = of_one (IsKept bytes) is.kept in
      let short : PackedLine → Type 0 = λ l. length (rest_of bytes 0 l) ≤ 250 in
      let front : PackedLine → Type 0 = λ l. l.front ≡ front_of (rest_of bytes 0 l) in
      record {
        numbers = is.numbers;
        kept =
            All-set (IsKept bytes) lines place more
            (record { front = kept.front; ended = kept.ended; inside = kept.inside }) is.kept;
        short = All-set short lines place more (of_one short is.short) is.short;
        counted =
            All-set (λ (l : PackedLine). 1 ≤ l.count) lines place more
            (omega (arith, of_one (λ (l : PackedLine). 1 ≤ l.count) is.counted)) is.counted;
        fronts = All-set front lines place more (of_one front is.fronts) is.fronts;
      }

  -- a line is between those before it and those after it
  parted :
      (all : List PackedLine) (line : PackedLine) → take place all ≡ take place lines
      → drop place all ≡ line ∷ drop (place + 1) lines → rest_of bytes 0 line ≡ ranking
      → lines_of bytes all
      ≡ lines_of bytes (take place lines)
      ++ record { count = line.count; ranking = ranking } ∷ lines_of bytes (drop (place + 1) lines)
  parted all line front left same =
      let behind = drop (place + 1) lines in
      ap (lines_of bytes) (sym (take-append-drop place all))
      ∙ (ap (λ (l : List PackedLine). lines_of bytes (l ++ drop place all)) front
      ∙ (ap (λ (l : List PackedLine). lines_of bytes (take place lines ++ l)) left
      ∙ (map-append (line_of bytes) (take place lines) (line ∷ behind)
      ∙ ap (λ (r : List ℕ). lines_of bytes (take place lines)
      ++ record { count = line.count; ranking = r } ∷ lines_of bytes behind) same)))

  pub adds_more : AddsTo count ranking (lines_of bytes lines) (lines_of bytes (set lines place more))
  adds_more = record {
    before = lines_of bytes (take place lines);
    behind = lines_of bytes (drop (place + 1) lines);
    had = one.count;
    was =
        parted lines one refl
        (drop_more lines place one has.inside ∙ ap (λ (l : PackedLine). l ∷ drop (place + 1) lines) (sym there)) own_ranking;
    now =
        parted (set lines place more) more (take-set lines place more) (drop-set lines place more has.inside) own_ranking;
  }

  -- a line has no more ballots than all
  pub one_few : one.count ≤ line_count lines
  one_few =
      subst (λ (l : PackedLine). l.count ≤ line_count lines) (sym there)
      (get_or-le-sum_by (λ (l : PackedLine). l.count) lines place one has.inside)

-- ---- the ballots of packed lines

pub plain-lines_of : (bytes : List ℕ) (lines : List PackedLine) → plain (lines_of bytes lines) ≡ rests bytes 0 lines
plain-lines_of bytes [] = refl
plain-lines_of bytes (line ∷ lines) =
    ap (λ (l : List (List ℕ)). replicate line.count (rest_of bytes 0 line) ++ l) (plain-lines_of bytes lines)

pub count-lines_of : (bytes : List ℕ) (lines : List PackedLine) → ballot_count (lines_of bytes lines) ≡ line_count lines
count-lines_of bytes [] = refl
count-lines_of bytes (line ∷ lines) =
    omega (
      arith,
      count-lines_of bytes lines,
      sum_by-cons (λ (l : BallotLine). l.count) (line_of bytes line) (lines_of bytes lines),
      sum_by-cons (λ (l : PackedLine). l.count) line lines,
    )

-- numbers of no more candidates are numbers of many
pub packed_among :
    (n m : ℕ) (bytes : List ℕ) (lines : List PackedLine) → n ≤ m → IsPacked n bytes lines → IsPacked m bytes lines
packed_among n m bytes lines few is = record {
  numbers = λ k d inside. omega (arith, is.numbers k d inside);
  kept = is.kept;
  short = is.short;
  counted = is.counted;
  fronts = is.fronts;
}
