-- Where a block of rounds ends.
use Rattle.std.proofs.Common.{◌≡◌, ◌∙◌, ap, sym, arith, ℕ, ◌+◌, ◌-◌, ◌<◌, ◌≤◌, true, false, Bool, cond, List, [], ◌∷◌, ◌++◌, drop, length, take}
use Rattle.std.proofs.Common.{length-append}
use Rattle.std.proofs.Math.Seq.{take-append_seam, drop-append_seam}
use Rattle.std.proofs.lemmas.Bool.Decides.{nat_tests}
use Rattle.std.proofs.lemmas.List.{take_all}
use Rattle.std.proofs.Math.ListN.{drop_of_length-le}
use Rattle.meek_rule.specs.Row.{Row}
use Rattle.sheet_minutes.specs.Rounds.{ends_round, rounds_in}
use Rattle.sheet_minutes.proofs.Ranges.{round_at, rounds_in-more, rounds_in-cut}

-- one round more, or none
pub count_end :
    (rows : List Row) (first i : ℕ) → first ≤ i → ends_round rows i ≡ true
    → length (rounds_in rows first (i + 1 - first)) ≡ length (rounds_in rows first (i - first)) + 1
count_end rows first i from ends =
    let n = i - first in
    let here : first + n ≡ i = omega arith in
    let next : i + 1 - first ≡ n + 1 = omega arith in
    ap (λ (k : ℕ). length (rounds_in rows first k)) next
    ∙ ap length (rounds_in-more rows first n) ∙ length-append (rounds_in rows first n) (round_at rows (first + n))
    ∙ ap (λ (k : ℕ). length (rounds_in rows first n) + length (round_at rows k)) here
    ∙ ap (λ (b : Bool). length (rounds_in rows first n) + length (cond b (i ∷ []) [])) ends

pub count_none :
    (rows : List Row) (first i : ℕ) → first ≤ i → ends_round rows i ≡ false
    → length (rounds_in rows first (i + 1 - first)) ≡ length (rounds_in rows first (i - first))
count_none rows first i from goes_on =
    let n = i - first in
    let here : first + n ≡ i = omega arith in
    let next : i + 1 - first ≡ n + 1 = omega arith in
    let none : length (rounds_in rows first n) + 0 ≡ length (rounds_in rows first n) = omega arith in
    ap (λ (k : ℕ). length (rounds_in rows first k)) next
    ∙ ap length (rounds_in-more rows first n) ∙ length-append (rounds_in rows first n) (round_at rows (first + n))
    ∙ ap (λ (k : ℕ). length (rounds_in rows first n) + length (round_at rows k)) here
    ∙ ap (λ (b : Bool). length (rounds_in rows first n) + length (cond b (i ∷ []) [])) goes_on ∙ none

-- all rounds from a place on, cut at another
parts :
    (rows : List Row) (first j : ℕ) → first ≤ j → j ≤ length rows
    → rounds_in rows first (length rows - first) ≡ rounds_in rows first (j - first) ++ rounds_in rows j (length rows - j)
parts rows first j from within =
    let whole : length rows - first ≡ (j - first) + (length rows - j) = omega arith in
    let here : first + (j - first) ≡ j = omega arith in
    ap (λ (k : ℕ). rounds_in rows first k) whole ∙ rounds_in-cut rows first (j - first) (length rows - j)
    ∙ ap (λ (k : ℕ). rounds_in rows first (j - first) ++ rounds_in rows k (length rows - j)) here

-- a block that is full, and the rounds after it
pub full_block :
    (rows : List Row) (first j size : ℕ) → first ≤ j → j ≤ length rows
    → length (rounds_in rows first (j - first)) ≡ size
    → rounds_in rows first (j - first) ≡ take size (rounds_in rows first (length rows - first))
full_block rows first j size from within full =
    sym (ap (take size) (parts rows first j from within)
    ∙ ap (λ (k : ℕ). take k (rounds_in rows first (j - first) ++ rounds_in rows j (length rows - j))) (sym full)
    ∙ take-append_seam (rounds_in rows first (j - first)) (rounds_in rows j (length rows - j)))

pub behind_full :
    (rows : List Row) (first j size : ℕ) → first ≤ j → j ≤ length rows
    → length (rounds_in rows first (j - first)) ≡ size
    → rounds_in rows j (length rows - j) ≡ drop size (rounds_in rows first (length rows - first))
behind_full rows first j size from within full =
    sym (ap (drop size) (parts rows first j from within)
    ∙ ap (λ (k : ℕ). drop k (rounds_in rows first (j - first) ++ rounds_in rows j (length rows - j))) (sym full)
    ∙ drop-append_seam (rounds_in rows first (j - first)) (rounds_in rows j (length rows - j)))

-- the last block, and nothing after it
pub last_block :
    (rows : List Row) (first size : ℕ) → length (rounds_in rows first (length rows - first)) ≤ size
    → rounds_in rows first (length rows - first) ≡ take size (rounds_in rows first (length rows - first))
last_block rows first size few = sym (take_all size (rounds_in rows first (length rows - first)) few)

pub behind_last :
    (rows : List Row) (first size : ℕ) → length (rounds_in rows first (length rows - first)) ≤ size
    → rounds_in rows (length rows) (length rows - length rows) ≡ drop size (rounds_in rows first (length rows - first))
behind_last rows first size few =
    let none : length rows - length rows ≡ 0 = omega arith in
    ap (λ (k : ℕ). rounds_in rows (length rows) k) none
    ∙ sym (drop_of_length-le (rounds_in rows first (length rows - first)) few)

-- The last iteration is the last of its round, so there is a round from every place on.
last_ends : (rows : List Row) (k : ℕ) → k + 1 ≡ length rows → ends_round rows k ≡ true
last_ends rows k last = grind (arith, nat_tests)

pub some_round :
    (rows : List Row) (first : ℕ) → first < length rows → 0 < length (rounds_in rows first (length rows - first))
some_round rows first below =
    let i = length rows - 1 in
    let next : i + 1 - first ≡ length rows - first = omega arith in
    let more = count_end rows first i (omega arith) (last_ends rows i (omega arith)) in
    let same = ap (λ (k : ℕ). length (rounds_in rows first k)) next in
    omega (arith, more, same)
