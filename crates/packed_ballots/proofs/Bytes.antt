-- Rankings among bytes.
use Rattle.std.proofs.Common.{◌≡◌, ℕ, ◌+◌, ◌≤◌, List, [], ◌∷◌, ◌++◌, All, length, drop}
use Rattle.std.proofs.Common.{arith, refl, ap, sym, ◌∙◌, zero, suc, append_assoc}
use Rattle.std.proofs.lemmas.List.{drop_at, drop-append-le}
use Rattle.std.proofs.lemmas.List.Elements.{All-tail}
use Rattle.plain_ballots.specs.declared.ballot_line.BallotLine.{BallotLine}
use Rattle.packed_ballots.specs.declared.packed_line.PackedLine.{PackedLine}
use Rattle.packed_ballots.specs.Packed.{until_zero, rest_of, line_of, lines_of, IsKept}

abbrev pub nothing : PackedLine
nothing = record { front = 0; start = 0; count = 0 }

pub ended_once : (ranks more : List ℕ) → until_zero (ranks ++ 0 ∷ more) ≡ until_zero (ranks ++ 0 ∷ [])
ended_once [] more = refl
ended_once (zero ∷ ranks) more = refl
ended_once (suc c ∷ ranks) more = ap (λ (l : List ℕ). suc c ∷ l) (ended_once ranks more)

pub whole : (ranks : List ℕ) → All (λ r. 1 ≤ r) ranks → until_zero (ranks ++ 0 ∷ []) ≡ ranks
whole [] all = refl
whole (zero ∷ ranks) all = let none : 1 ≤ 0 = all 0 0 (omega arith) in absurd (omega (arith, none))
whole (suc c ∷ ranks) all = ap (λ (l : List ℕ). suc c ∷ l) (whole ranks (All-tail (λ (r : ℕ). 1 ≤ r) (suc c) ranks all))

-- a ranking is the same when further bytes come in after
pub rest_kept :
    (bytes more : List ℕ) (line : PackedLine) → IsKept bytes line
    → rest_of (bytes ++ more) 0 line ≡ rest_of bytes 0 line
rest_kept bytes more line kept =
    let k = line.start + 0 in
    let front = kept.front in
    let inside : k ≤ length front = omega (arith, kept.inside) in
    let longer : bytes ++ more ≡ front ++ 0 ∷ more =
    ap (λ (l : List ℕ). l ++ more) kept.ended ∙ append_assoc front (0 ∷ []) more in
    ap (λ (l : List ℕ). until_zero (drop k l)) longer
    ∙ (ap until_zero (drop-append-le k front (0 ∷ more) inside)
    ∙ (ended_once (drop k front) more
    ∙ (ap until_zero (sym (drop-append-le k front (0 ∷ []) inside))
    ∙ ap (λ (l : List ℕ). until_zero (drop k l)) (sym kept.ended))))

-- and so are those of all lines
pub lines_kept :
    (bytes more : List ℕ) (lines : List PackedLine) → All (IsKept bytes) lines
    → lines_of (bytes ++ more) lines ≡ lines_of bytes lines
lines_kept bytes more [] all = refl
lines_kept bytes more (line ∷ lines) all =
    let same : line_of (bytes ++ more) line ≡ line_of bytes line =
    ap (λ (r : List ℕ). record { count = line.count; ranking = r })
    (rest_kept bytes more line (all 0 line (omega arith))) in
    ap (λ (l : BallotLine). l ∷ lines_of (bytes ++ more) lines) same
    ∙ ap (λ (l : List BallotLine). line_of bytes line ∷ l)
    (lines_kept bytes more lines (All-tail (IsKept bytes) line lines all))

-- that of the last line is the one that came in
pub rest_new :
    (bytes ranks : List ℕ) (line : PackedLine) → line.start ≡ length bytes → All (λ r. 1 ≤ r) ranks
    → rest_of (bytes ++ (ranks ++ 0 ∷ [])) 0 line ≡ ranks
rest_new bytes ranks line start positive =
    ap until_zero (drop_at bytes (ranks ++ 0 ∷ []) (line.start + 0) (omega (arith, start))) ∙ whole ranks positive
