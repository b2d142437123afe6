-- The text from a place on, one piece after another.
use Rattle.std.proofs.Common.{◌≡◌, ℕ, ◌+◌, ◌-◌, ◌<◌, ◌≤◌, zero, suc, List, [], ◌∷◌, length, take, drop, Bool}
use Rattle.std.proofs.Common.{true, false, ◌==◌, refl, sym, ◌∙◌, ap, subst, arith, add-zero, length-drop}
use Rattle.std.proofs.Common.{get_or}
use Rattle.std.proofs.lemmas.List.{drop-drop, drop_more, drop_all, get_or-drop}
use Rattle.std.proofs.lemmas.List.Sums.{prefix_len-drop_no}
use Rattle.input_text.specs.declared.fault_kind.FaultKind.TheVariants.{BadByte, Ended}
use Rattle.input_text.specs.declared.what.What.{What}
use Rattle.input_text.specs.declared.what.What.TheVariants as what
use Rattle.input_text.specs.Token.{Item, Number, Text, Word, AtEnd, AtFault, ends, with_front}
use Rattle.input_text.specs.Scan.{Gap, Lexeme, Wrong, Unclosed, piece, beginning, cut}
use Rattle.std.specs.List.{AllPass, prefix_len, take_while}
use Rattle.std.specs.Char.{is_ascii_digit, is_ascii_lowercase}
use Rattle.input_text.specs.Scan.{is_separator, is_in_string, number, may_end, may_follow, number_piece}
use Rattle.input_text.specs.Reader.{said, IsTokenAt}
use Rattle.input_text.specs.ShortNumber.{IsShortNumber}

-- bytes that are skipped only move the place
pub skipped :
    (letters : Bool) (at n : ℕ) (bytes : List ℕ) → n ≤ length bytes
    → cut letters at n bytes ≡ cut letters (at + n) 0 (drop n bytes)
unfolding cut
skipped letters at zero bytes within = ap (λ (k : ℕ). cut letters k 0 bytes) (sym (add-zero at))
skipped letters at (suc n) [] within = absurd (omega arith)
skipped letters at (suc n) (b ∷ behind) within =
    let place : at + 1 + n ≡ at + suc n = omega arith in
    skipped letters (at + 1) n behind (omega arith) ∙ ap (λ (k : ℕ). cut letters k 0 (drop n behind)) place

pub at_end :
    (letters : Bool) (bytes : List ℕ) (at : ℕ) → at ≡ length bytes → cut letters 0 at bytes ≡ ends (AtEnd (length bytes))
unfolding cut
at_end letters bytes at is =
    let none : drop at bytes ≡ [] = drop_all at bytes (omega (arith, is)) in
    let place : 0 + at ≡ length bytes = omega (arith, is) in
    skipped letters 0 at bytes (omega (arith, is)) ∙ rw (none, place) refl

-- what comes from a place on begins with the piece there
pub begins :
    (letters : Bool) (bytes : List ℕ) (at : ℕ) → at < length bytes
    → cut letters 0 at bytes ≡ beginning at (piece letters (drop at bytes))
    (λ n. cut letters (at + 1) (n - 1) (drop (at + 1) bytes))
unfolding cut
begins letters bytes at inside =
    let split : drop at bytes ≡ get_or bytes at 0 ∷ drop (at + 1) bytes = drop_more bytes at 0 inside in
    let place : 0 + at ≡ at = omega arith in
    skipped letters 0 at bytes (omega arith) ∙ rw (place, split) refl

-- and goes on after it
pub goes_on :
    (letters : Bool) (bytes : List ℕ) (at n : ℕ) → 0 < n → at + n ≤ length bytes
    → cut letters (at + 1) (n - 1) (drop (at + 1) bytes) ≡ cut letters 0 (at + n) bytes
goes_on letters bytes at n some within =
    let place : at + 1 + (n - 1) ≡ at + n = omega arith in
    let start : 0 + (at + n) ≡ at + n = omega arith in
    let front : cut letters (at + 1) (n - 1) (drop (at + 1) bytes) ≡ cut letters (at + n) 0 (drop (at + n) bytes) =
    skipped letters (at + 1) (n - 1) (drop (at + 1) bytes) (omega (arith, length-drop (at + 1) bytes))
    ∙ rw (drop-drop (n - 1) (at + 1) bytes, place) refl in
    let back : cut letters 0 (at + n) bytes ≡ cut letters (at + n) 0 (drop (at + n) bytes) =
    skipped letters 0 (at + n) bytes within ∙ ap (λ (k : ℕ). cut letters k 0 (drop (at + n) bytes)) start in
    front ∙ sym back

part_moved : (bytes : List ℕ) (at i m k : ℕ) → m ≡ k → take m (drop i (drop at bytes)) ≡ take k (drop (at + i) bytes)
part_moved bytes at i m k same = rw (same, drop-drop i at bytes) refl

pub same_said : (bytes : List ℕ) (at n : ℕ) (what : What) → said (drop at bytes) 0 n what ≡ said bytes at (at + n) what
same_said bytes at n (what.Number k) = refl
same_said bytes at n (what.Minus k) = refl
same_said bytes at n what.Text = ap Text (part_moved bytes at 1 (n - 1 - 1) (at + n - 1 - (at + 1)) (omega arith))
same_said bytes at n what.Word = ap Word (part_moved bytes at 0 (n - 0) (at + n - at) (omega arith) ∙ rw (add-zero at) refl)

-- The steps of a reader, by the piece that it finds.
module _ (letters : Bool) (bytes : List ℕ) (at n : ℕ) (inside : at < length bytes) where
  pub over_gap :
      piece letters (drop at bytes) ≡ Gap n → 0 < n → at + n ≤ length bytes
      → cut letters 0 at bytes ≡ cut letters 0 (at + n) bytes
  over_gap is some within = begins letters bytes at inside ∙ rw is (goes_on letters bytes at n some within)

  pub over_lexeme :
      (item : Item) → piece letters (drop at bytes) ≡ Lexeme item n → 0 < n → at + n ≤ length bytes
      → cut letters 0 at bytes ≡ with_front (record { at = at; item = item }) (cut letters 0 (at + n) bytes)
  over_lexeme item is some within =
      begins letters bytes at inside
      ∙ rw is (ap (with_front (record { at = at; item = item })) (goes_on letters bytes at n some within))

  pub at_wrong :
      piece letters (drop at bytes) ≡ Wrong n
      → cut letters 0 at bytes ≡ ends (AtFault (record { kind = BadByte; at = at + n }))
  at_wrong is = begins letters bytes at inside ∙ rw is refl

  pub at_unclosed :
      piece letters (drop at bytes) ≡ Unclosed n
      → cut letters 0 at bytes ≡ ends (AtFault (record { kind = Ended; at = at + n }))
  at_unclosed is = begins letters bytes at inside ∙ rw is refl

-- a token at a place is the token at the front of what is from there on
pub token_moved :
    (bytes : List ℕ) (at n : ℕ) (what : What) → at + n ≤ length bytes → IsTokenAt (drop at bytes) 0 n what
    → IsTokenAt bytes at (at + n) what
token_moved bytes at n (what.Number k) within held = omega (arith, held)
token_moved bytes at n (what.Minus k) within held =
    let digits : prefix_len is_ascii_digit (drop 1 (drop at bytes)) ≡ prefix_len is_ascii_digit (drop (at + 1) bytes) =
    ap (λ (xs : List ℕ). prefix_len is_ascii_digit xs) (drop-drop 1 at bytes) in
    omega (arith, held, digits)
token_moved bytes at n what.Text within held = (
  omega (arith, held.0),
  within,
  subst (AllPass is_in_string)
      (part_moved bytes at 1 (n - 1 - 1) (at + n - 1 - (at + 1)) (omega arith)) held.2,
)
token_moved bytes at n what.Word within held = (
  omega arith,
  within,
  subst (AllPass is_ascii_lowercase)
      (part_moved bytes at 0 (n - 0) (at + n - at) (omega arith) ∙ rw (add-zero at) refl) held.2,
)

-- ---- a short number before a separator

pub over_separator :
    (letters : Bool) (bytes : List ℕ) (at : ℕ) → at < length bytes → is_separator (get_or bytes at 0) ≡ true
    → cut letters 0 at bytes ≡ cut letters 0 (at + 1) bytes
unfolding piece
over_separator letters bytes at inside is =
    let found : piece letters (drop at bytes) ≡ Gap 1 = ap (piece letters) (drop_more bytes at 0 inside) ∙ rw is refl in
    over_gap letters bytes at 1 inside found (omega arith) (omega (arith, inside))

digit_is_no_separator : (b : ℕ) → is_ascii_digit b ≡ true → (is_separator b ≡ false) × ((b == 35) ≡ false)
digit_is_no_separator b is = (grind arith, grind arith)

-- where a digit is at the front there is a number
digit_piece :
    (letters : Bool) (xs : List ℕ) → 0 < prefix_len is_ascii_digit xs → (is_digit : Bool)
    → is_ascii_digit (get_or xs 0 0) ≡ is_digit → piece letters xs ≡ number_piece xs
unfolding piece
digit_piece letters [] some is_digit is = absurd (omega arith)
digit_piece letters (b ∷ behind) some true is = let no = digit_is_no_separator b is in rw (no.0, no.1, is) refl
digit_piece letters (b ∷ behind) some false is =
    absurd (omega (arith, some, prefix_len-drop_no is_ascii_digit (b ∷ behind) 0 0 (omega arith) is))

may_follow_here : (xs : List ℕ) (n : ℕ) → n < length xs → may_end (get_or xs n 0) ≡ true → may_follow (drop n xs) ≡ true
may_follow_here xs n inside ends = ap may_follow (drop_more xs n 0 inside) ∙ ends

number_found :
    (letters : Bool) (xs : List ℕ) (n digits : ℕ) → digits < length xs → 0 < digits → digits ≡ prefix_len is_ascii_digit xs
    → n ≡ number (take_while is_ascii_digit xs) → may_end (get_or xs digits 0) ≡ true
    → piece letters xs ≡ Lexeme (Number n) digits
unfolding number_piece
number_found letters xs n digits inside some run value ends =
    let behind : may_follow (drop (prefix_len is_ascii_digit xs) xs) ≡ true =
    ap (λ (m : ℕ). may_follow (drop m xs)) (sym run) ∙ may_follow_here xs digits inside ends in
    digit_piece letters xs (omega (arith, some, run)) (is_ascii_digit (get_or xs 0 0)) refl
    ∙ rw behind refl
    ∙ ap (λ (m : ℕ). Lexeme (Number m) (prefix_len is_ascii_digit xs)) (sym value)
    ∙ ap (Lexeme (Number n)) (sym run)

-- a token may end before a separator
separator_ends : (b : ℕ) → is_separator b ≡ true → may_end b ≡ true
separator_ends b is = grind arith

-- what comes from a place on where a short number stands, and then a separator
pub over_number :
    (letters : Bool) (bytes : List ℕ) (from n len : ℕ) → from ≤ length bytes → IsShortNumber (drop from bytes) n len
    → cut letters 0 from bytes ≡ with_front (record { at = from; item = Number n }) (cut letters 0 (from + len) bytes)
over_number letters bytes from n len within is =
    let xs = drop from bytes in
    let digits = len - 1 in
    let inside : from + digits < length bytes = omega (arith, is.inside, is.some, length-drop from bytes, within) in
    let found =
    number_found letters xs n digits (omega (arith, is.inside, is.some)) (omega (arith, is.some))
    (omega (arith, is.run)) is.value (separator_ends (get_or xs digits 0) is.ends) in
    let behind : is_separator (get_or bytes (from + digits) 0) ≡ true =
    ap is_separator (sym (get_or-drop from bytes digits 0)) ∙ is.ends in
    let place : from + digits + 1 ≡ from + len = omega (arith, is.some) in
    over_lexeme letters bytes from digits (omega (arith, inside)) (Number n) found (omega (arith, is.some))
    (omega (arith, inside))
    ∙ ap (with_front (record { at = from; item = Number n }))
    (over_separator letters bytes (from + digits) inside behind ∙ ap (λ (k : ℕ). cut letters 0 k bytes) place)
