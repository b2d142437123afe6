-- A minus and digits with a separator after them are read as a minus number.
use Rattle.std.proofs.Common.{◌≡◌, ℕ, zero, suc, ◌+◌, ◌-◌, ◌^◌, ◌<◌, ◌≤◌, ◌==◌, ◌||◌, min, Bool, true, false}
use Rattle.std.proofs.Common.{List, [], ◌∷◌, ◌++◌, length, drop, take, refl, ap, ◌∙◌, arith, append_assoc}
use Rattle.std.proofs.Common.{length-append}
use Rattle.std.specs.Prelude.{decimal}
use Rattle.std.specs.Char.{is_ascii_digit}
use Rattle.std.proofs.lemmas.Fmt.{decimal_is_IsNumeral, decimal_nonempty}
use Rattle.input_text.specs.Token.{Minus, Scan, with_front}
use Rattle.input_text.specs.Scan.{is_separator, number, may_follow, Piece, Gap, Lexeme, piece, minus_piece, cut, beginning}
use Rattle.input_text.specs.Refusal.{items_of}
use Rattle.input_text.specs.Written.{Spells, Each}
use Rattle.input_text.proofs.WrittenRuns.{run_len, drop_front, take_front, digits_of, no_digit}

-- the bytes of a token that was cut off are passed over
skipped : (at n : ℕ) (behind : List ℕ) → n ≤ length behind → cut true at n behind ≡ cut true (at + n) 0 (drop n behind)
unfolding cut
skipped at zero behind within = ap (λ (k : ℕ). cut true k 0 behind) (omega arith)
skipped at (suc n) [] within = absurd (omega arith)
skipped at (suc n) (b ∷ behind) within =
    let place : at + 1 + n ≡ at + suc n = omega arith in
    skipped (at + 1) n behind (omega arith) ∙ ap (λ (k : ℕ). cut true k 0 (drop n behind)) place

gap : (s : ℕ) (rest : List ℕ) → is_separator s ≡ true → piece true (s ∷ rest) ≡ Gap 1
unfolding piece
gap s rest is = rw is refl

passed : (at s : ℕ) (rest : List ℕ) → is_separator s ≡ true → cut true at 0 (s ∷ rest) ≡ cut true (at + 1) 0 rest
unfolding cut
passed at s rest is = ap (λ (p : Piece). beginning at p (λ m. cut true (at + 1) (m - 1) rest)) (gap s rest is)

minus : (digits : List ℕ) (s : ℕ) (rest : List ℕ) → 0 < length digits → Each is_ascii_digit digits → is_separator s ≡ true
    → piece true (45 ∷ (digits ++ s ∷ rest)) ≡ Lexeme (Minus (number digits)) (length digits + 1)
unfolding piece minus_piece
minus digits s rest some each is =
    let len = run_len is_ascii_digit digits s rest each (no_digit s is) in
    let front : take (length digits) (digits ++ s ∷ rest) ≡ digits = take_front digits (s ∷ rest) in
    let more : (length digits == 0) ≡ false = grind arith in
    let ends : may_follow (drop (length digits) (digits ++ s ∷ rest)) ≡ true =
    ap may_follow (drop_front digits (s ∷ rest)) ∙ ap (λ (b : Bool). b || s == 35) is in
    rw len (rw more (rw ends (rw front refl)))

cut_off :
    (digits : List ℕ) (s at : ℕ) (rest : List ℕ) → 0 < length digits → Each is_ascii_digit digits
    → is_separator s ≡ true
    → cut true at 0 (45 ∷ (digits ++ s ∷ rest))
    ≡ with_front (record { at = at; item = Minus (number digits) }) (cut true (at + length (45 ∷ (digits ++ s ∷ []))) 0 rest)
unfolding cut
cut_off digits s at rest some each is =
    let behind = digits ++ s ∷ rest in
    let n = length digits in
    let long : length behind ≡ n + suc (length rest) = length-append digits (s ∷ rest) in
    let short : length (digits ++ s ∷ []) ≡ n + 1 = length-append digits (s ∷ []) in
    let less : n + 1 - 1 ≡ n = omega arith in
    let place : at + 1 + n + 1 ≡ at + suc (length (digits ++ s ∷ [])) = omega arith in
    ap (λ (p : Piece). beginning at p (λ m. cut true (at + 1) (m - 1) behind)) (minus digits s rest some each is)
    ∙ ap (λ (t : Scan). with_front (record { at = at; item = Minus (number digits) }) t)
    (ap (λ (m : ℕ). cut true (at + 1) m behind) less
    ∙ (skipped (at + 1) n behind (omega arith)
    ∙ (ap (λ (l : List ℕ). cut true (at + 1 + n) 0 l) (drop_front digits (s ∷ rest))
    ∙ (passed (at + 1 + n) s rest is ∙ ap (λ (k : ℕ). cut true k 0 rest) place))))

pub minus_spelled : (n s : ℕ) → n ≤ 4294967295 → is_separator s ≡ true → Spells (45 ∷ (decimal n ++ s ∷ [])) (Minus n ∷ [])
minus_spelled n s most is =
    let fits : n < 2 ^ 64 = omega arith in
    let value : number (decimal n) ≡ n = ap (λ (k : ℕ). min k 4294967295) (decimal_is_IsNumeral n fits).1 ∙ (omega arith) in
    let flat : (rest : List ℕ) → (45 ∷ (decimal n ++ s ∷ [])) ++ rest ≡ 45 ∷ (decimal n ++ s ∷ rest) =
    λ rest. ap (λ (l : List ℕ). 45 ∷ l) (append_assoc (decimal n) (s ∷ []) rest) in
    let whole =
    λ (at : ℕ) (rest : List ℕ). ap (cut true at 0) (flat rest)
    ∙ cut_off (decimal n) s at rest (decimal_nonempty n fits) (digits_of n fits) is in
    record {
      items_are = λ at rest.
          ap (λ (t : Scan). items_of t.tokens) (whole at rest)
          ∙ ap (λ (k : ℕ). Minus k ∷ items_of (cut true (at + length (45 ∷ (decimal n ++ s ∷ []))) 0 rest).tokens) value;
      ending = λ at rest. ap (λ (t : Scan). t.ending) (whole at rest);
    }
