-- First preferences and ballots that rank nobody are all ballots.
use Rattle.std.proofs.Common.{◌≡◌, ◌∙◌, ℕ, zero, suc, ◌+◌, ◌*◌, ◌<◌, ◌≤◌, Bool, cond, List, [], ◌∷◌}
use Rattle.std.proofs.Common.{ap, arith, refl, inl, inr, All}
use Rattle.std.specs.Prelude.{nat_eq}
use Rattle.std.specs.List.{range_with_len, sum_by}
use Rattle.std.proofs.lemmas.Bool.{cases_eq, eq-eqb, ne_eqb}
use Rattle.std.proofs.lemmas.List.Sums.{sum_by-cons}
use Rattle.plain_ballots.specs.declared.ballot_line.BallotLine.{BallotLine}
use Rattle.plain_ballots.specs.Ballots.{ballot_count}
use Rattle.plain_ballots.specs.Ranking.{IsRanking}
use Rattle.plain_ballots.proofs.PlainLemmas.{sum_by-plain}
use Rattle.ballot_findings.specs.Counts.{has_first, how_many, is_empty}
use Rattle.ballot_findings.specs.Laws.{FirstsAreAll}

-- ---- sums over a run of numbers

sum_same :
    (f g : ℕ → ℕ) (a n : ℕ) → ((c : ℕ) → f c ≡ g c) → sum_by f (range_with_len a n) ≡ sum_by g (range_with_len a n)
sum_same f g a zero same = refl
sum_same f g a (suc n) same =
    let one = sum_by-cons f a (range_with_len (a + 1) n) in
    let other = sum_by-cons g a (range_with_len (a + 1) n) in
    omega (arith, one, other, same a, sum_same f g (a + 1) n same)

sum_both :
    (f g : ℕ → ℕ) (a n : ℕ)
    → sum_by (λ c. f c + g c) (range_with_len a n) ≡ sum_by f (range_with_len a n) + sum_by g (range_with_len a n)
sum_both f g a zero = refl
sum_both f g a (suc n) =
    let both = sum_by-cons (λ c. f c + g c) a (range_with_len (a + 1) n) in
    let one = sum_by-cons f a (range_with_len (a + 1) n) in
    let other = sum_by-cons g a (range_with_len (a + 1) n) in
    omega (arith, both, one, other, sum_both f g (a + 1) n)

sum_none : (f : ℕ → ℕ) (a n : ℕ) → ((c : ℕ) → a ≤ c → f c ≡ 0) → sum_by f (range_with_len a n) ≡ 0
sum_none f a zero none = refl
sum_none f a (suc n) none =
    let one = sum_by-cons f a (range_with_len (a + 1) n) in
    let rest = sum_none f (a + 1) n (λ c from. none c (omega (arith, from))) in
    let here = none a (omega arith) in
    omega (arith, one, rest, here)

-- one number of the run, m times
sum_one :
    (m d a n : ℕ) → a ≤ d → d < a + n → sum_by (λ c. m * cond (nat_eq d c) 1 0) (range_with_len a n) ≡ m
sum_one m d a zero from below = absurd (omega (arith, from, below))
sum_one m d a (suc n) from below =
    let f : ℕ → ℕ = λ c. m * cond (nat_eq d c) 1 0 in
    let one = sum_by-cons f a (range_with_len (a + 1) n) in
    elim (cases_eq d a) [
      | inl same ↦
          let here : f a ≡ m = ap (λ (b : Bool). m * cond b 1 0) (eq-eqb d a same) ∙ omega arith in
          let rest = sum_none f (a + 1) n
          (λ c past. ap (λ (b : Bool). m * cond b 1 0) (ne_eqb d c (λ is. omega (arith, past, same, is))) ∙ omega arith) in
          omega (arith, one, here, rest)
      | inr other ↦
          let here : f a ≡ 0 = ap (λ (b : Bool). m * cond b 1 0) (ne_eqb d a other) ∙ omega arith in
          let rest = sum_one m d (a + 1) n (omega (arith, from, other)) (omega (arith, below)) in
          omega (arith, one, here, rest)
    ]

-- ---- lines

of_line :
    (n m : ℕ) (ranking : List ℕ) → IsRanking n ranking
    → sum_by (λ c. m * cond (has_first c ranking) 1 0) (range_with_len 1 n) + m * cond (is_empty ranking) 1 0 ≡ m
of_line n m [] is =
    let none = sum_none (λ c. m * cond (has_first c []) 1 0) 1 n (λ c from. omega arith) in
    omega (arith, none)
of_line n m (d ∷ ranks) is =
    let first = is.numbers 0 d (omega arith) in
    let one = sum_one m d 1 n first.0 (omega (arith, first.1)) in
    omega (arith, one)

-- so many of a line's ballots pass a test
abbrev weighed : (List ℕ → Bool) → BallotLine → ℕ
weighed test line = line.count * cond (test line.ranking) 1 0

of_lines :
    (n : ℕ) (lines : List BallotLine) → All (λ line. IsRanking n line.ranking) lines
    → sum_by (λ c. sum_by (weighed (has_first c)) lines) (range_with_len 1 n) + sum_by (weighed is_empty) lines
    ≡ ballot_count lines
of_lines n [] all = let none = sum_none (λ c. 0) 1 n (λ c from. refl) in omega (arith, none)
of_lines n (line ∷ lines) all =
    let here : ℕ → ℕ = λ c. weighed (has_first c) line in
    let rest : ℕ → ℕ = λ c. sum_by (weighed (has_first c)) lines in
    let whole : ℕ → ℕ = λ c. sum_by (weighed (has_first c)) (line ∷ lines) in
    let both = sum_same whole (λ c. here c + rest c) 1 n (λ c. sum_by-cons (weighed (has_first c)) line lines) in
    let parted = sum_both here rest 1 n in
    let of_this = of_line n line.count line.ranking (all 0 line (omega arith)) in
    let of_rest = of_lines n lines (λ k d below. all (suc k) d (omega (arith, below))) in
    let empty = sum_by-cons (weighed is_empty) line lines in
    let count = sum_by-cons (λ (l : BallotLine). l.count) line lines in
    omega (arith, both, parted, of_this, of_rest, empty, count)

pub firsts : FirstsAreAll
firsts n lines all =
    let by_lines : (test : List ℕ → Bool) → how_many test lines ≡ sum_by (weighed test) lines =
    λ test. sum_by-plain (λ (b : List ℕ). cond (test b) 1 0) lines in
    let same = sum_same (λ c. how_many (has_first c) lines) (λ c. sum_by (weighed (has_first c)) lines) 1 n
    (λ c. by_lines (has_first c)) in
    let empty = by_lines is_empty in
    omega (arith, same, empty, of_lines n lines all)
