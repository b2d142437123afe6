-- Lines of equal ballots, and the single ballots that they stand for.
use Rattle.std.proofs.Common.{◌≡◌, ℕ, ◌+◌, ◌*◌, List, [], ◌∷◌, ◌++◌, length, replicate, append_assoc, arith}
use Rattle.std.proofs.Common.{refl, ap, sym, ◌∙◌}
use Rattle.std.specs.List.{sum_by}
use Rattle.std.specs.List.Sorted.{IsPermutation}
use Rattle.std.proofs.lemmas.List.{length-append, length-replicate}
use Rattle.std.proofs.lemmas.List.Folds.{sum_by-replicate}
use Rattle.std.proofs.lemmas.List.Sums.{sum_by-append, sum_by-cons}
use Rattle.plain_ballots.specs.declared.ballot_line.BallotLine.{BallotLine}
use Rattle.plain_ballots.specs.Ballots.{ballot_count, plain}
use Rattle.plain_ballots.proofs.PermutationLemmas.{flat_map-IsPermutation}

-- the ballots of one line
abbrev ballots_of : BallotLine → List (List ℕ)
ballots_of line = replicate line.count line.ranking

pub length-plain : (lines : List BallotLine) → length (plain lines) ≡ ballot_count lines
length-plain [] = refl
length-plain (line ∷ lines) =
    let both = length-append (ballots_of line) (plain lines) in
    let here : length (ballots_of line) ≡ line.count = length-replicate line.count line.ranking in
    omega (arith, length-plain lines, sum_by-cons (λ (l : BallotLine). l.count) line lines)

pub plain-append : (xs ys : List BallotLine) → plain (xs ++ ys) ≡ plain xs ++ plain ys
plain-append [] ys = refl
plain-append (line ∷ xs) ys =
    ap (λ (rest : List (List ℕ)). ballots_of line ++ rest) (plain-append xs ys)
    ∙ sym (append_assoc (ballots_of line) (plain xs) (plain ys))

-- a sum over single ballots may be taken line by line
pub sum_by-plain :
    (f : List ℕ → ℕ) (lines : List BallotLine)
    → sum_by f (plain lines) ≡ sum_by (λ line. line.count * f line.ranking) lines
sum_by-plain f [] = refl
sum_by-plain f (line ∷ lines) =
    sum_by-append f (ballots_of line) (plain lines)
    ∙ (ap (λ (n : ℕ). n + sum_by f (plain lines)) (sum_by-replicate f line.count line.ranking)
    ∙ (ap (λ (n : ℕ). line.count * f line.ranking + n) (sum_by-plain f lines)
    ∙ sym (sum_by-cons (λ (l : BallotLine). l.count * f l.ranking) line lines)))

pub plain-IsPermutation : (xs ys : List BallotLine) → IsPermutation xs ys → IsPermutation (plain xs) (plain ys)
plain-IsPermutation xs ys same = flat_map-IsPermutation ballots_of xs ys same
