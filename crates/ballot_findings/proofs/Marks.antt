-- The line and the column one byte on, and after the end of a text.
use Rattle.std.proofs.Common.{◌≡◌, ◌∙◌, ℕ, zero, suc, ◌+◌, ◌-◌, ◌<◌, ◌≤◌, Bool, true, false, cond, List, []}
use Rattle.std.proofs.Common.{◌∷◌, ◌++◌, length, take}
use Rattle.std.proofs.Common.{ap, arith, refl, sym, reverse}
use Rattle.std.specs.Prelude.{◌==◌, ◌&&◌, ◌||◌, not, if◌then◌else◌, slice_index}
use Rattle.std.specs.List.{prefix_len}
use Rattle.std.proofs.lemmas.List.{get_or_past, reverse-append, take_all, take_more}
use Rattle.ballot_findings.specs.Places.{column_at, ends_line, is_break, line_at}
use Rattle.ballot_findings.proofs.Each.{count_more}

pub line_more : (text : List ℕ) (p : ℕ) → line_at text (p + 1) ≡ line_at text p + cond (ends_line text p) 1 0
line_more text p = omega (arith, count_more (ends_line text) 0 p p (omega arith))

-- a column from whether the byte before it breaks the line
counted : (b : Bool) (n : ℕ) → 1 + cond (not b) (1 + n) 0 ≡ (if b then 1 else 1 + n + 1)
counted true n = refl
counted false n = omega arith

pub column_more :
    (text : List ℕ) (p : ℕ) → p < length text
    → column_at text (p + 1) ≡ (if is_break (slice_index text p) then 1 else column_at text p + 1)
column_more text p inside =
    let test : ℕ → Bool = λ b. not (is_break b) in
    let b = slice_index text p in
    let more : take (p + 1) text ≡ take p text ++ b ∷ [] = take_more text p 0 inside in
    ap (λ (l : List ℕ). 1 + prefix_len test (reverse l)) more
    ∙ (ap (λ (l : List ℕ). 1 + prefix_len test l) (reverse-append (take p text) (b ∷ []))
    ∙ counted (is_break b) (prefix_len test (reverse (take p text))))

-- ---- after the end

abbrev counted_one : Bool → ℕ
counted_one b = cond b 1 0

-- no line ends where no byte is
none_past : (text : List ℕ) (p : ℕ) → length text ≤ p → ends_line text p ≡ false
none_past text p past =
    ap (λ (b : ℕ). (b == 13) || ((b == 10) && not (slice_index text (p - 1) == 13))) (get_or_past text p 0 past)

line_past_by : (text : List ℕ) (k : ℕ) → line_at text (length text + k) ≡ line_at text (length text)
line_past_by text zero = ap (line_at text) (let same : length text + 0 ≡ length text = omega arith in same)
line_past_by text (suc k) =
    let p = length text + k in
    let none = ap counted_one (none_past text p (omega arith)) in
    let more = line_more text p in
    let before = line_past_by text k in
    let same : length text + suc k ≡ p + 1 = omega arith in
    ap (line_at text) same ∙ omega (arith, none, more, before)

pub line_past : (text : List ℕ) (p : ℕ) → length text ≤ p → line_at text (length text) ≡ line_at text p
line_past text p past =
    sym (line_past_by text (p - length text))
    ∙ ap (line_at text) (let same : length text + (p - length text) ≡ p = omega arith in same)

pub column_past : (text : List ℕ) (p : ℕ) → length text ≤ p → column_at text (length text) ≡ column_at text p
column_past text p past =
    ap (λ (l : List ℕ). 1 + prefix_len (λ b. not (is_break b)) (reverse l))
    (take_all (length text) text (omega arith) ∙ sym (take_all p text past))
