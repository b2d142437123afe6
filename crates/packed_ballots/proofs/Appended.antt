-- Lines of other ballots after these.
use Rattle.std.proofs.Common.{◌≡◌, ℕ, ◌+◌, ◌≤◌, ◌<◌, List, [], ◌∷◌, ◌++◌, All, length, map, drop, get_or}
use Rattle.std.proofs.Common.{arith, refl, ap, sym, ◌∙◌, append_assoc}
use Rattle.std.proofs.Math.Seq.{drop-append-add}
use Rattle.std.proofs.lemmas.List.{length-append, map-append}
use Rattle.std.proofs.lemmas.List.Elements.{All-append, All-map}
use Rattle.std.proofs.lemmas.List.Sums.{sum_by-append}
use Rattle.plain_ballots.specs.declared.ballot_line.BallotLine.{BallotLine}
use Rattle.plain_ballots.specs.Ballots.{IsSound, ballot_count}
use Rattle.plain_ballots.specs.Ranking.{IsRanking}
use Rattle.packed_ballots.specs.declared.packed_line.PackedLine.{PackedLine}
use Rattle.packed_ballots.specs.Packed.{rest_of, line_of, lines_of, raised, front_of, until_zero}
use Rattle.packed_ballots.specs.Packed.{IsKept, IsPacked}
use Rattle.packed_ballots.proofs.Bytes.{rest_kept, lines_kept, nothing}

-- a ranking is the same where as many bytes more come in before it
rest_raised :
    (bytes more : List ℕ) (line : PackedLine)
    → rest_of (bytes ++ more) 0 (raised (length bytes) line) ≡ rest_of more 0 line
rest_raised bytes more line =
    let place : (line.start + length bytes) + 0 ≡ length bytes + (line.start + 0) = omega arith in
    ap (λ (k : ℕ). until_zero (drop k (bytes ++ more))) place
    ∙ ap until_zero (drop-append-add bytes more (line.start + 0))

-- and so are those of all lines
lines_raised :
    (bytes more : List ℕ) (others : List PackedLine)
    → lines_of (bytes ++ more) (map (raised (length bytes)) others) ≡ lines_of more others
lines_raised bytes more [] = refl
lines_raised bytes more (line ∷ others) =
    let rest = lines_of (bytes ++ more) (map (raised (length bytes)) others) in
    ap (λ (r : List ℕ). record { count = line.count; ranking = r } ∷ rest) (rest_raised bytes more line)
    ∙ ap (λ (l : List BallotLine). line_of more line ∷ l) (lines_raised bytes more others)

pub lines_appended :
    (bytes more : List ℕ) (lines others : List PackedLine) → All (IsKept bytes) lines
    → lines_of (bytes ++ more) (lines ++ map (raised (length bytes)) others)
    ≡ lines_of bytes lines ++ lines_of more others
lines_appended bytes more lines others kept =
    let came = map (raised (length bytes)) others in
    map-append (line_of (bytes ++ more)) lines came
    ∙ (ap (λ (l : List BallotLine). l ++ lines_of (bytes ++ more) came) (lines_kept bytes more lines kept)
    ∙ ap (λ (l : List BallotLine). lines_of bytes lines ++ l) (lines_raised bytes more others))

-- lines of rankings of n candidates, and some others after them
module _ (n : ℕ) (bytes more : List ℕ) (lines others : List PackedLine)
    (is : IsPacked n bytes lines) (are : IsPacked n more others) (some : 1 ≤ length others) where
  abbrev new : List ℕ
  new = bytes ++ more

  abbrev moved : PackedLine → PackedLine
  moved line = raised (length bytes) line

  ended : (front : List ℕ) → more ≡ front ++ 0 ∷ [] → new ≡ (bytes ++ front) ++ 0 ∷ []
  ended front is_ended = ap (λ (l : List ℕ). bytes ++ l) is_ended ∙ sym (append_assoc bytes front (0 ∷ []))

  own_kept : All (IsKept new) lines
  own_kept k d inside =
      let before = is.kept k d inside in
      let last = are.kept 0 nothing some in
      record {
        front = bytes ++ last.front;
        ended = ended last.front last.ended;
        inside =
            omega (
              arith,
              before.inside,
              ap length before.ended,
              length-append before.front (0 ∷ []),
              length-append bytes last.front,
            );
      }

  others_kept : All (λ line. IsKept new (moved line)) others
  others_kept k d inside =
      let before = are.kept k d inside in
      record {
        front = bytes ++ before.front;
        ended = ended before.front before.ended;
        inside = omega (arith, before.inside, length-append bytes before.front);
      }

  -- what the rankings of these and of the others have, those of all lines have
  of_all :
      (P : PackedLine → Type 0) → All P lines → All (λ line. P (moved line)) others
      → All P (lines ++ map moved others)
  of_all P own came = All-append P lines (map moved others) own (All-map P moved others came)

  same_rest :
      (k : ℕ) (d : PackedLine) → k < length lines
      → rest_of new 0 (get_or lines k d) ≡ rest_of bytes 0 (get_or lines k d)
  same_rest k d inside = rest_kept bytes more (get_or lines k d) (is.kept k d inside)

  same_raised :
      (k : ℕ) (d : PackedLine)
      → rest_of new 0 (moved (get_or others k d)) ≡ rest_of more 0 (get_or others k d)
  same_raised k d = rest_raised bytes more (get_or others k d)

  pub packed_appended : IsPacked n new (lines ++ map moved others)
  packed_appended = record {
    numbers = All-append (λ (c : ℕ). c ≤ n) bytes more is.numbers are.numbers;
    kept = of_all (IsKept new) own_kept others_kept;
    short =
        of_all (λ (l : PackedLine). length (rest_of new 0 l) ≤ 250)
        (λ k d inside. omega (arith, is.short k d inside, ap length (same_rest k d inside)))
        (λ k d inside. omega (arith, are.short k d inside, ap length (same_raised k d)));
    counted = of_all (λ (l : PackedLine). 1 ≤ l.count) is.counted are.counted;
    fronts =
        of_all (λ (l : PackedLine). l.front ≡ front_of (rest_of new 0 l))
        (λ k d inside. is.fronts k d inside ∙ ap front_of (sym (same_rest k d inside)))
        (λ k d inside. are.fronts k d inside ∙ ap front_of (sym (same_raised k d)));
  }

-- as many ballots as both have
pub count_appended :
    (old others : List BallotLine) → ballot_count (old ++ others) ≡ ballot_count old + ballot_count others
count_appended old others = sum_by-append (λ (l : BallotLine). l.count) old others

pub sound_appended :
    (n : ℕ) (old others : List BallotLine) → IsSound n old → IsSound n others
    → ballot_count old + ballot_count others ≤ 999999999 → IsSound n (old ++ others)
sound_appended n old others is are few = record {
  rankings = All-append (λ (l : BallotLine). IsRanking n l.ranking) old others is.rankings are.rankings;
  counted = All-append (λ (l : BallotLine). 1 ≤ l.count) old others is.counted are.counted;
  bounded = omega (arith, few, count_appended old others);
}
