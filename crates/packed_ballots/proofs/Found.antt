-- A ranking found among bytes.
use Rattle.std.proofs.Common.{◌≡◌, ℕ, ◌+◌, ◌-◌, ◌≤◌, List, [], ◌∷◌, ◌++◌, All, length, take, drop, get_or}
use Rattle.std.proofs.Common.{arith, refl, ap, sym, ◌∙◌, zero, suc, append_assoc}
use Rattle.std.specs.List.{slice_range}
use Rattle.std.proofs.lemmas.List.{take-append-drop, take_all, take_more, drop-drop, length-take, length-drop}
use Rattle.std.proofs.lemmas.List.Elements.{All-nil, All-cons, All-tail, All-drop}
use Rattle.packed_ballots.specs.declared.packed_line.PackedLine.{PackedLine}
use Rattle.packed_ballots.specs.Fronts.{AreNumbers}
use Rattle.packed_ballots.specs.Packed.{front_of, rest_of, until_zero}
use Rattle.packed_ballots.proofs.Bytes.{ended_once, whole}
use Rattle.packed_ballots.proofs.Fronts.{fronts_eight}

-- the ranks of a ranking among numbers of candidates
until_numbers : (n : ℕ) (bytes : List ℕ) → All (λ c. c ≤ n) bytes → All (λ r. (1 ≤ r) × (r ≤ n)) (until_zero bytes)
until_numbers n [] all = All-nil (λ (r : ℕ). (1 ≤ r) × (r ≤ n))
until_numbers n (zero ∷ bytes) all = All-nil (λ (r : ℕ). (1 ≤ r) × (r ≤ n))
until_numbers n (suc c ∷ bytes) all =
    let low : suc c ≤ n = all 0 0 (omega arith) in
    All-cons (λ (r : ℕ). (1 ≤ r) × (r ≤ n)) (suc c) (until_zero bytes) (omega arith, low)
    (until_numbers n bytes (All-tail (λ (c : ℕ). c ≤ n) (suc c) bytes all))

pub rest_numbers :
    (n : ℕ) (bytes : List ℕ) (line : PackedLine) → All (λ c. c ≤ n) bytes
    → All (λ r. (1 ≤ r) × (r ≤ n)) (rest_of bytes 0 line)
rest_numbers n bytes line all =
    until_numbers n (drop (line.start + 0) bytes) (All-drop (λ (c : ℕ). c ≤ n) (line.start + 0) bytes all)

-- what is left of a ranking from a place on is the ranking from there on
drop_until : (k : ℕ) (bytes : List ℕ) → k ≤ length (until_zero bytes) → drop k (until_zero bytes) ≡ until_zero (drop k bytes)
drop_until zero bytes le = refl
drop_until (suc k) [] le = refl
drop_until (suc k) (zero ∷ bytes) le = absurd (omega arith)
drop_until (suc k) (suc c ∷ bytes) le = drop_until k bytes (omega arith)

-- ranks and a 0 after them, at the front of bytes, are the ranking there
pub stands_at :
    (bytes own ranks : List ℕ) → own ≡ take (length ranks + 1) bytes → length own ≡ length ranks + 1
    → take (length ranks) own ≡ ranks → get_or own (length ranks) 0 ≡ 0 → All (λ r. 1 ≤ r) ranks
    → until_zero bytes ≡ ranks
stands_at bytes own ranks is long same end positive =
    let n = length ranks in
    let behind = drop (n + 1) bytes in
    let whole_own : own ≡ ranks ++ 0 ∷ [] =
    sym (take_all (n + 1) own (omega (arith, long)))
    ∙ (take_more own n 0 (omega (arith, long))
    ∙ (ap (λ (l : List ℕ). l ++ get_or own n 0 ∷ []) same ∙ ap (λ (r : ℕ). ranks ++ r ∷ []) end)) in
    let all : bytes ≡ ranks ++ 0 ∷ behind =
    sym (take-append-drop (n + 1) bytes)
    ∙ (ap (λ (l : List ℕ). l ++ behind) (sym is ∙ whole_own) ∙ append_assoc ranks (0 ∷ []) behind) in
    ap until_zero all ∙ (ended_once ranks behind ∙ whole ranks positive)

-- a ranking of this front, with these ranks from the ninth on
pub same_from_ninth :
    (bytes ranks : List ℕ) (line : PackedLine) → AreNumbers (rest_of bytes 0 line) → AreNumbers ranks
    → front_of (rest_of bytes 0 line) ≡ front_of ranks → 8 ≤ length ranks
    → until_zero (drop (line.start + 8) bytes) ≡ drop 8 ranks → rest_of bytes 0 line ≡ ranks
same_from_ninth bytes ranks line own numbers front many same =
    let rest = rest_of bytes 0 line in
    let first : take 8 rest ≡ take 8 ranks = fronts_eight rest ranks own numbers front in
    let long : 8 ≤ length rest = omega (arith, many, ap length first, length-take 8 rest, length-take 8 ranks) in
    let place : (line.start + 0) + 8 ≡ line.start + 8 = omega arith in
    let behind : drop 8 rest ≡ drop 8 ranks =
    drop_until 8 (drop (line.start + 0) bytes) long
    ∙ (ap until_zero (drop-drop 8 (line.start + 0) bytes)
    ∙ (ap (λ (k : ℕ). until_zero (drop k bytes)) place ∙ same)) in
    sym (take-append-drop 8 rest)
    ∙ (ap (λ (l : List ℕ). l ++ drop 8 rest) first
    ∙ (ap (λ (l : List ℕ). take 8 ranks ++ l) behind ∙ take-append-drop 8 ranks))

-- a slice from a place on
pub slice_from : (xs own : List ℕ) (from : ℕ) → own ≡ slice_range xs from (length xs) → own ≡ drop from xs
slice_from xs own from is = is ∙ take_all (length xs - from) (drop from xs) (omega (arith, length-drop from xs))

-- a slice up to a place
pub slice_up_to : (xs own : List ℕ) (end : ℕ) → own ≡ slice_range xs 0 end → own ≡ take end xs
slice_up_to xs own end is =
    let all : end - 0 ≡ end = omega arith in
    is ∙ ap (λ (k : ℕ). take k xs) all
