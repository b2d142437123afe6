-- Lines that come into a share.
use Rattle.std.proofs.Common.{◌≡◌, ℕ, ◌+◌, ◌%◌, ◌≤◌, List, [], ◌∷◌, ◌++◌, length}
use Rattle.std.proofs.Common.{replicate, arith, ap, sym, ◌∙◌, subst}
use Rattle.std.specs.List.Sorted.{IsPermutation}
use Rattle.std.proofs.lemmas.List.Sorted.{All-permutation, IsPermutation-append_left, IsPermutation-refl}
use Rattle.std.proofs.lemmas.List.Sorted.{IsPermutation-sym, IsPermutation-trans, length_permutation}
use Rattle.plain_ballots.proofs.PermutationLemmas.{flat_map-IsPermutation}
use Rattle.std.proofs.lemmas.List.{length-append}
use Rattle.std.proofs.lemmas.List.Sums.{sum_by-cons}
use Rattle.plain_ballots.specs.declared.ballot_line.BallotLine.{BallotLine}
use Rattle.plain_ballots.specs.Ballots.{BallotList, ballot_count, plain}
use Rattle.packed_ballots.specs.declared.packed_line.PackedLine.{PackedLine}
use Rattle.packed_ballots.specs.Packed.{rest_of, rests, front_of, IsKept, IsPacked}
use Rattle.frozen_plan.specs.Dealing.{dealt, share}
use Rattle.frozen_plan.specs.Dealt.{StandsFor, IsDealt}
use Rattle.frozen_plan.proofs.DealingLemmas.{dealt_here, dealt_some}

-- sorted lines are as good
pub sorted_lines :
    (n : ℕ) (bytes : List ℕ) (lines sorted : List PackedLine) → IsPermutation lines sorted
    → IsPacked n bytes lines → IsPacked n bytes sorted
sorted_lines n bytes lines sorted same is = record {
  numbers = is.numbers;
  kept = All-permutation (IsKept bytes) lines sorted same is.kept;
  short = All-permutation (λ (l : PackedLine). length (rest_of bytes 0 l) ≤ 250) lines sorted same is.short;
  counted = All-permutation (λ (l : PackedLine). 1 ≤ l.count) lines sorted same is.counted;
  fronts = All-permutation (λ (l : PackedLine). l.front ≡ front_of (rest_of bytes 0 l)) lines sorted same is.fronts;
}

pub sorted_rests :
    (bytes : List ℕ) (lines sorted : List PackedLine) → IsPermutation lines sorted
    → IsPermutation (rests bytes 0 sorted) (rests bytes 0 lines)
sorted_rests bytes lines sorted same =
    let f : PackedLine → List (List ℕ) = λ l. replicate l.count (rest_of bytes 0 l) in
    flat_map-IsPermutation f sorted lines (IsPermutation-sym lines sorted same)

-- ---- lines that are dealt

-- a share takes in equal ballots
pub stands_longer :
    (candidates : ℕ) (bag more : List (List ℕ)) (line : BallotLine) (old new : BallotList)
    → new.candidates ≡ old.candidates
    → IsPermutation (plain new.lines) (plain old.lines ++ replicate line.count line.ranking)
    → IsPermutation (bag ++ replicate line.count line.ranking) more → StandsFor candidates bag old
    → StandsFor candidates more new
stands_longer candidates bag more line old new kept takes same before =
    let equal = replicate line.count line.ranking in
    record {
      of_all = kept ∙ before.of_all;
      all =
          IsPermutation-trans (plain new.lines) (plain old.lines ++ equal) more takes
          (IsPermutation-trans (plain old.lines ++ equal) (bag ++ equal) more
          (IsPermutation-append_left equal (plain old.lines) bag before.all) same);
    }

pub own_line : (n s i : ℕ) (line : BallotLine) → i % n ≡ s → dealt n (s + 1) i line ≡ replicate line.count line.ranking
own_line n s i line mine =
    subst (λ (t : ℕ). dealt n (t + 1) i line ≡ replicate line.count line.ranking) mine (dealt_here n i line)

-- no line is dealt yet
pub none_dealt :
    (candidates n s i : ℕ) (empty : BallotList) → empty ≡ record { candidates = candidates; lines = [] }
    → IsDealt candidates n s i [] empty
none_dealt candidates n s i empty is = record {
  of_all = ap (λ (b : BallotList). b.candidates) is;
  all = subst (λ (b : BallotList). IsPermutation (plain b.lines) []) (sym is) (IsPermutation-refl []);
}

-- a share has no more ballots than there are
pub share_few : (n s i : ℕ) (lines : List BallotLine) → length (share n s i lines) ≤ ballot_count lines
share_few n s i [] = omega arith
share_few n s i (line ∷ lines) =
    let own = dealt n s i line in
    omega (
      arith,
      length-append own (share n s (i + 1) lines),
      dealt_some n s i line,
      share_few n s (i + 1) lines,
      sum_by-cons (λ (l : BallotLine). l.count) line lines,
    )

pub share_counted :
    (candidates n s i : ℕ) (lines : List BallotLine) (one : BallotList)
    → ((ls : List BallotLine) → length (plain ls) ≡ ballot_count ls)
    → IsDealt candidates n s i lines one → ballot_count one.lines ≤ ballot_count lines
share_counted candidates n s i lines one count is =
    omega (
      arith,
      count one.lines,
      length_permutation (plain one.lines) (share n s i lines) is.all,
      share_few n s i lines,
    )
