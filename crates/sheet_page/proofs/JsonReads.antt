-- Strings as they are read back.
use Rattle.std.proofs.Common.{◌≡◌, ◌∙◌, refl, sym, ap, subst, ℕ, ◌+◌, ◌-◌, ◌*◌, ◌/◌, ◌%◌, ◌<◌, ◌≤◌, Bool}
use Rattle.std.proofs.Common.{true, false, cond, not, ◌&&◌, ◌||◌, List, [], ◌∷◌, ◌++◌, inl, inr, arith}
use Rattle.std.proofs.Common.{append_assoc, append-nil}
use Rattle.std.specs.Prelude.{nat_lt, Option, Some, None}
use Rattle.std.proofs.lemmas.Bool.{cases_Bool, ltb-true, ltb-false, lt-ltb, le-ltb}
use Rattle.std.proofs.lemmas.Bool.Decides.{eqb_tells}
use Rattle.page_tree.specs.Escaping.{readable, escaped}
use Rattle.sheet_page.specs.JsonText.{hex_digit, escape, string_text}
use Rattle.sheet_page.specs.JsonReading.{Between, InNumber, is_within, is_hex, hex_value, read_on, read_string}

-- ---- digits of base 16

within : (first last b : ℕ) → first ≤ b → b ≤ last → is_within first last b ≡ true
within first last b low high =
    ap (λ (x : Bool). not x && not (nat_lt last b)) (le-ltb b first low)
    ∙ ap (λ (x : Bool). true && not x) (le-ltb last b high)

any_last : (x y : Bool) → (x || y || true) ≡ true
any_last true true = refl
any_last true false = refl
any_last false true = refl
any_last false false = refl

digit_hex : (d : ℕ) → d < 10 → (is_hex (48 + d) ≡ true) × (hex_value (48 + d) ≡ d)
digit_hex d small = (
  ap (λ (x : Bool). x || is_within 65 70 (48 + d) || is_within 97 102 (48 + d))
      (within 48 57 (48 + d) (omega arith) (omega (arith, small))),
  ap (λ (x : Bool). cond x (48 + d - 48) (cond (nat_lt (48 + d) 71) (48 + d - 55) (48 + d - 87)))
      (lt-ltb (48 + d) 58 (omega (arith, small))) ∙ omega arith,
)

letter_hex : (d : ℕ) → 10 ≤ d → d < 16 → (is_hex (87 + d) ≡ true) × (hex_value (87 + d) ≡ d)
letter_hex d some small = (
  ap (λ (x : Bool). is_within 48 57 (87 + d) || is_within 65 70 (87 + d) || x)
      (within 97 102 (87 + d) (omega (arith, some)) (omega (arith, small)))
      ∙ any_last (is_within 48 57 (87 + d)) (is_within 65 70 (87 + d)),
  ap (λ (x : Bool). cond x (87 + d - 48) (cond (nat_lt (87 + d) 71) (87 + d - 55) (87 + d - 87)))
      (le-ltb (87 + d) 58 (omega arith))
      ∙ ap (λ (x : Bool). cond x (87 + d - 55) (87 + d - 87)) (le-ltb (87 + d) 71 (omega arith)) ∙ omega arith,
)

hex_is : (d : ℕ) → d < 16 → (is_hex (hex_digit d) ≡ true) × (hex_value (hex_digit d) ≡ d)
hex_is d small =
    elim (cases_Bool (nat_lt d 10)) [
      | inl digit ↦
          subst (λ (c : ℕ). (is_hex c ≡ true) × (hex_value c ≡ d))
          (sym (ap (λ (x : Bool). cond x (48 + d) (87 + d)) digit)) (digit_hex d (ltb-true d 10 digit))
      | inr letter ↦
          subst (λ (c : ℕ). (is_hex c ≡ true) × (hex_value c ≡ d))
          (sym (ap (λ (x : Bool). cond x (48 + d) (87 + d)) letter))
          (letter_hex d (ltb-false d 10 letter) small)
    ]

-- ---- a byte

-- the number that two digits after two zeros give
abbrev number : (first second : ℕ) → ℕ
number first second = (0 * 16 + hex_value first) * 16 + hex_value second

read_number :
    (done more : List ℕ) (first second b : ℕ) → is_hex first ≡ true → is_hex second ≡ true
    → number first second ≡ b → b < 128
    → read_on done Between (92 ∷ 117 ∷ 48 ∷ 48 ∷ first ∷ second ∷ more) ≡ read_on (done ++ b ∷ []) Between more
read_number done more first second b one other is small =
    let n = number first second in
    let all : Option (List ℕ × List ℕ) = read_on (done ++ n ∷ []) Between more in
    ap (λ (x : Bool). cond (not x) None (read_on done (InNumber 3 (0 * 16 + hex_value first)) (second ∷ more))) one
    ∙ ap (λ (x : Bool). cond (not x) None (cond (nat_lt n 128) all None)) other
    ∙ ap (λ (x : Bool). cond x all None) (lt-ltb n 128 (omega (arith, is, small)))
    ∙ ap (λ (m : ℕ). read_on (done ++ m ∷ []) Between more) is

read_byte : (done more : List ℕ) (b : ℕ) → read_on done Between (escape b ++ more) ≡ read_on (done ++ b ∷ []) Between more
read_byte done more b =
    elim (eqb_tells b 34) [
      | inl is ↦
          subst (λ (q : ℕ). read_on done Between (escape q ++ more) ≡ read_on (done ++ q ∷ []) Between more)
          (sym is.1) refl
      | inr not_quote ↦ elim (eqb_tells b 92) [
        | inl is ↦
            subst (λ (q : ℕ). read_on done Between (escape q ++ more) ≡ read_on (done ++ q ∷ []) Between more)
            (sym is.1) refl
        | inr not_backslash ↦ elim (cases_Bool (nat_lt b 32)) [
          | inl control ↦ rw (not_quote.0, not_backslash.0, control) (by (ltb-true b 32 control))
          | inr other ↦ rw (not_quote.0, not_backslash.0, other) (rw (not_quote.0, not_backslash.0, other) refl)
        ]
      ]
    ]
  where
    by :
        b < 32
        → read_on done Between (92 ∷ 117 ∷ 48 ∷ 48 ∷ hex_digit (b / 16) ∷ hex_digit (b % 16) ∷ more)
        ≡ read_on (done ++ b ∷ []) Between more
    by small =
        let high = hex_is (b / 16) (omega (arith, small)) in
        let low = hex_is (b % 16) (omega arith) in
        read_number done more (hex_digit (b / 16)) (hex_digit (b % 16)) b high.0 low.0
        (omega (arith, high.1, low.1)) (omega (arith, small))

read_escaped : (done bytes rest : List ℕ) → read_on done Between (escaped escape bytes ++ 34 ∷ rest) ≡ Some (done ++ bytes, rest)
unfolding escaped
read_escaped done [] rest = ap (λ (l : List ℕ). Some (l, rest)) (sym (append-nil done))
read_escaped done (b ∷ bytes) rest =
    ap (read_on done Between) (append_assoc (escape b) (escaped escape bytes) (34 ∷ rest))
    ∙ read_byte done (escaped escape bytes ++ 34 ∷ rest) b
    ∙ read_escaped (done ++ b ∷ []) bytes rest
    ∙ ap (λ (l : List ℕ). Some (l, rest)) (append_assoc done (b ∷ []) bytes)

-- a whole string, and bytes after it
pub strings_read : (text rest : List ℕ) → read_string (string_text text ++ rest) ≡ Some (readable text, rest)
strings_read text rest =
    ap (read_on [] Between) (append_assoc (escaped escape (readable text)) (34 ∷ []) rest) ∙ read_escaped [] (readable text) rest
