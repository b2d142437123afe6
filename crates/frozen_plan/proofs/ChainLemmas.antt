-- The nodes of a single line are a chain.
use Rattle.std.proofs.Common.{◌≡◌, ℕ, ◌+◌, ◌-◌, ◌≤◌, ◌<◌, List, [], ◌∷◌, ◌++◌, All, length, map, drop, get_or}
use Rattle.std.proofs.Common.{replicate, arith, refl, ap, sym, ◌∙◌, subst, zero, suc, append_assoc}
use Rattle.std.specs.List.Sorted.{IsPermutation}
use Rattle.std.proofs.lemmas.List.{append-nil, length-append}
use Rattle.std.proofs.lemmas.List.Elements.{All-nil, All-cons, All-head, All-tail, All-drop}
use Rattle.std.proofs.lemmas.List.Sorted.{IsPermutation-refl}
use Rattle.ranking_trie.proofs.BagLemmas.{map-replicate}
use Rattle.packed_ballots.specs.declared.packed_line.PackedLine.{PackedLine}
use Rattle.frozen_plan.specs.declared.plan_row.PlanRow.{PlanRow}
use Rattle.frozen_plan.specs.Forest.{ballots_of, through, rows_of, IsGrown}
use Rattle.packed_ballots.specs.Packed.{until_zero, rank_of, rest_of, rests}
use Rattle.frozen_plan.specs.Groups.{IsNodeOf, ends_at, chain}
use Rattle.frozen_plan.proofs.RunLemmas.{rest_none, rest_more}

-- all ballots go through each node
through-chain : (n : ℕ) (ranks : List ℕ) → ends_at n ranks + through (chain n ranks) ≡ n
through-chain n [] = omega arith
through-chain n (c ∷ ranks) = omega (arith, through-chain n ranks)

-- a node for each rank
length-chain : (n d : ℕ) (ranks : List ℕ) → length (rows_of d (chain n ranks)) ≡ length ranks
length-chain n d [] = refl
length-chain n d (c ∷ ranks) =
    let low = rows_of (d + 1) (chain n ranks) in
    omega (arith, length-append low [], length-chain n (d + 1) ranks)

-- the first row, and those below it
rows_of-chain : (n d c : ℕ) (ranks : List ℕ)
    → rows_of d (chain n (c ∷ ranks))
    ≡ record { depth = d; candidate = c; ballots = n; skip = length ranks + 1 }
    ∷ rows_of (d + 1) (chain n ranks)
rows_of-chain n d c ranks =
    let low = rows_of (d + 1) (chain n ranks) in
    let row : ℕ → ℕ → PlanRow = λ m k. record { depth = d; candidate = c; ballots = m; skip = k + 1 } in
    ap (λ (m : ℕ). row m (length low) ∷ (low ++ [])) (through-chain n ranks)
    ∙ (ap (λ (k : ℕ). row n k ∷ (low ++ [])) (length-chain n (d + 1) ranks)
    ∙ ap (λ (l : List PlanRow). row n (length ranks) ∷ l) (append-nil low))

-- its ballots are those of the line
ballots_of-chain :
    (n : ℕ) (ranks : List ℕ)
    → replicate (ends_at n ranks) [] ++ ballots_of (chain n ranks) ≡ replicate n ranks
ballots_of-chain n [] = append-nil (replicate n [])
ballots_of-chain n (c ∷ ranks) =
    let low : List (List ℕ) = replicate (ends_at n ranks) [] ++ ballots_of (chain n ranks) in
    append-nil (map (λ (r : List ℕ). c ∷ r) low)
    ∙ (ap (map (λ (r : List ℕ). c ∷ r)) (ballots_of-chain n ranks) ∙ map-replicate (λ (r : List ℕ). c ∷ r) n ranks)

IsGrown-chain :
    (m n d : ℕ) (ranks : List ℕ) → All (λ c. (1 ≤ c) × (c ≤ m)) ranks → d + length ranks ≤ 251 → 1 ≤ n
    → IsGrown m 0 d (chain n ranks)
IsGrown-chain m n d [] all deep some = tt
IsGrown-chain m n d (c ∷ ranks) all deep some =
    let is : (1 ≤ c) × (c ≤ m) = All-head (λ (r : ℕ). (1 ≤ r) × (r ≤ m)) c ranks all in
    let counted = through-chain n ranks in (
      omega (arith, is.0),
      is.1,
      omega (arith, deep),
      omega (arith, counted, some),
      IsGrown-chain m n (d + 1) ranks (All-tail (λ (r : ℕ). (1 ≤ r) × (r ≤ m)) c ranks all) (omega (arith, deep)) some,
      tt,
    )

-- the ranks before the first 0 are candidates
candidates : (m : ℕ) (bytes : List ℕ) → All (λ c. c ≤ m) bytes → All (λ c. (1 ≤ c) × (c ≤ m)) (until_zero bytes)
candidates m [] all = All-nil (λ (r : ℕ). (1 ≤ r) × (r ≤ m))
candidates m (zero ∷ bytes) all = All-nil (λ (r : ℕ). (1 ≤ r) × (r ≤ m))
candidates m (suc c ∷ bytes) all =
    All-cons (λ (r : ℕ). (1 ≤ r) × (r ≤ m)) (suc c) (until_zero bytes)
    (omega arith, All-head (λ (r : ℕ). r ≤ m) (suc c) bytes all)
    (candidates m bytes (All-tail (λ (r : ℕ). r ≤ m) (suc c) bytes all))

-- ---- row by row

positive :
    (bytes : List ℕ) (at c : ℕ) (line : PackedLine) → rank_of bytes at line ≡ c
    → 1 ≤ length (rest_of bytes at line) → 1 ≤ c
positive bytes at zero line is some = absurd (omega (arith, some, ap length (rest_none bytes at line is)))
positive bytes at (suc c) line is some = omega arith

-- where a rank is left, it is before what is left after it
one_rank :
    (bytes : List ℕ) (at : ℕ) (line : PackedLine) → 1 ≤ length (rest_of bytes at line)
    → rest_of bytes at line ≡ rank_of bytes at line ∷ rest_of bytes (at + 1) line
one_rank bytes at line some =
    rest_more bytes at (rank_of bytes at line) line refl
    (positive bytes at (rank_of bytes at line) line refl some)

pub one_less :
    (bytes : List ℕ) (at end : ℕ) (line : PackedLine) → at + length (rest_of bytes at line) ≡ end → at < end
    → at + 1 + length (rest_of bytes (at + 1) line) ≡ end
one_less bytes at end line left inside =
    let some : 1 ≤ length (rest_of bytes at line) = omega (arith, left, inside) in
    omega (arith, left, ap length (one_rank bytes at line some))

-- a row more, and those of the ranks after it
pub one_row :
    (bytes : List ℕ) (at end n : ℕ) (line : PackedLine) (rows now : List PlanRow)
    → at + length (rest_of bytes at line) ≡ end → at < end
    → now ≡ rows ++ record { depth = at + 1; candidate = rank_of bytes at line; ballots = n; skip = end - at } ∷ []
    → now ++ rows_of (at + 1 + 1) (chain n (rest_of bytes (at + 1) line))
    ≡ rows ++ rows_of (at + 1) (chain n (rest_of bytes at line))
one_row bytes at end n line rows now left inside is =
    let c = rank_of bytes at line in
    let rest = rest_of bytes (at + 1) line in
    let low = rows_of (at + 1 + 1) (chain n rest) in
    let some : 1 ≤ length (rest_of bytes at line) = omega (arith, left, inside) in
    let row : ℕ → PlanRow = λ k. record { depth = at + 1; candidate = c; ballots = n; skip = k } in
    let skip : end - at ≡ length rest + 1 = omega (arith, left, ap length (one_rank bytes at line some)) in
    ap (λ (l : List PlanRow). l ++ low) is
    ∙ (append_assoc rows (row (end - at) ∷ []) low
    ∙ (ap (λ (k : ℕ). rows ++ row k ∷ low) skip
    ∙ (ap (λ (l : List PlanRow). rows ++ l) (sym (rows_of-chain n (at + 1) c rest))
    ∙ ap (λ (r : List ℕ). rows ++ rows_of (at + 1) (chain n r)) (sym (one_rank bytes at line some)))))

-- ---- lines that are one

pub one_only : (lines : List PackedLine) (d : PackedLine) → length lines ≡ 1 → lines ≡ get_or lines 0 d ∷ []
one_only [] d one = absurd (omega (arith, one))
one_only (line ∷ []) d one = refl
one_only (line ∷ other ∷ lines) d one = absurd (omega (arith, one))

-- The rows of a chain below this candidate are a node.
pub node_of_line : (bytes : List ℕ) (at c : ℕ) (line : PackedLine) (old new : List PlanRow)
    → new ≡ old ++ rows_of (at + 1) (chain line.count (rest_of bytes at line)) → rank_of bytes at line ≡ c
    → 1 ≤ c → 1 ≤ line.count
    → at + 1 + length (rest_of bytes (at + 1) line) ≤ 250
    → IsNodeOf bytes (at + 1) c (rests bytes (at + 1) (line ∷ [])) old new
node_of_line bytes at c line old new rows here candidate some short =
    let n = line.count in
    let rest = rest_of bytes (at + 1) line in
    let below : List (List ℕ) = replicate (ends_at n rest) [] ++ ballots_of (chain n rest) in
    record {
      ends = ends_at n rest;
      inner = chain n rest;
      rows = rows ∙ ap (λ (r : List ℕ). old ++ rows_of (at + 1) (chain n r)) (rest_more bytes at c line here candidate);
      grown =
          λ m all. IsGrown-chain m n (at + 1 + 1) rest (candidates m (drop (line.start + (at + 1)) bytes)
          (All-drop (λ (r : ℕ). r ≤ m) (line.start + (at + 1)) bytes all))
          (omega (arith, short)) some;
      bag =
          subst (λ (l : List (List ℕ)). IsPermutation below l)
          (ballots_of-chain n rest ∙ sym (append-nil (replicate n rest))) (IsPermutation-refl below);
    }
