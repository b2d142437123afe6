-- Which names and titles want no look by themselves.
use Rattle.std.proofs.Common.{◌≡◌, ◌∙◌, ℕ, ◌≤◌, Bool, true, false, List, [], ◌∷◌, ◌++◌}
use Rattle.std.proofs.Common.{ap, arith, refl, subst, sym, inl, inr, length, All}
use Rattle.std.specs.Prelude.{◌↔◌, ◌==◌, ◌||◌, if◌then◌else◌, not, count_by}
use Rattle.std.specs.List.{list_any}
use Rattle.std.specs.Str.{IsUtf8, chars, is_utf8}
use Rattle.std.proofs.lemmas.Bool.{and_cases, and_left, and_right, both_ways, cases_Bool, eqb-true, eq-eqb}
use Rattle.std.proofs.lemmas.Bool.{false_from_ne_true, le-ltb, ltb-false, not-false, not-true, not_from_false, not_from_true}
use Rattle.std.proofs.lemmas.Bool.{or_from, or_parts}
use Rattle.std.proofs.lemmas.List.{length-append}
use Rattle.std.proofs.lemmas.List.Folds.{list_any_at, list_any_none}
use Rattle.std.proofs.lemmas.Str.{IsUtf8-from_is_utf8, is_utf8-from_IsUtf8}
use Rattle.ballot_findings.specs.declared.oddity.Oddity.{Oddity}
use Rattle.ballot_findings.specs.declared.oddity.Oddity.TheVariants.{OtherBytes, DirectionalMark, HiddenCharacter, StraySign}
use Rattle.ballot_findings.specs.declared.oddity.Oddity.TheVariants.{UnusualBlanks, SeveralScripts, Number}
use Rattle.ballot_findings.specs.declared.kind.Kind.TheVariants.{Digit, BeyondNumbers}
use Rattle.ballot_findings.specs.Free.{IsEvenlySpaced, IsFree, IsNoNumber}
use Rattle.ballot_findings.specs.Oddities.{has_oddity, is_odd}
use Rattle.ballot_findings.specs.Signs.{fours, has, has_several_scripts, has_stray_sign, has_unusual_blanks, is_between}
use Rattle.ballot_findings.specs.Signs.{is_blank, is_directional, is_hidden, is_number, is_of, is_stray, is_unusual, last_or}
use Rattle.ballot_findings.specs.Signs.{pairs, scripts}
use Rattle.ballot_findings.proofs.CountLaws.{find, found}

-- ---- single characters

-- where none of a list passes, each fails
pub none_of :
    {X : Type 0} (test : X → Bool) (xs : List X) → (list_any test xs ≡ false) ↔ All (λ x. test x ≡ false) xs
none_of test xs = (
  λ none k d below. false_from_ne_true (test _) (λ is. both_ways (list_any test xs) none (list_any_at test xs k d below is)),
  λ all. list_any_none test xs all,
)

-- ---- two characters next to each other

-- a part of a list is not longer than the list
too_short :
    (xs before after : List ℕ) (n : ℕ) → n ≤ length after → xs ≡ before ++ after → n ≤ length xs
too_short xs before after n few is =
    omega (arith, few, ap (λ (l : List ℕ). length l) is, length-append before after)

module _ (test : ℕ → ℕ → Bool) where
  abbrev AreNext : List ℕ → Type 0
  AreNext xs = (before : List ℕ) (a b : ℕ) (after : List ℕ) → xs ≡ before ++ a ∷ b ∷ after → test a b ≡ false

  none_next : (xs : List ℕ) → list_any (λ two. test two.0 two.1) (pairs xs) ≡ false → AreNext xs
  none_next [] none before a b after is = absurd (omega (arith, too_short [] before (a ∷ b ∷ after) 2 (omega arith) is))
  none_next (x ∷ []) none before a b after is =
      absurd (omega (arith, too_short (x ∷ []) before (a ∷ b ∷ after) 2 (omega arith) is))
  none_next (x ∷ y ∷ xs) none [] a b after is =
      let first : x ≡ a = cc in
      let second : y ≡ b = cc in
      subst (λ (d : ℕ). test d b ≡ false) first
      (subst (λ (d : ℕ). test x d ≡ false) second (or_parts (test x y) _ none).0)
  none_next (x ∷ y ∷ xs) none (c ∷ before) a b after is =
      let rest : y ∷ xs ≡ before ++ a ∷ b ∷ after = cc in
      none_next (y ∷ xs) (or_parts (test x y) _ none).1 before a b after rest

  next_none : (xs : List ℕ) → AreNext xs → list_any (λ two. test two.0 two.1) (pairs xs) ≡ false
  next_none [] all = refl
  next_none (x ∷ []) all = refl
  next_none (x ∷ y ∷ xs) all =
      or_from (test x y) _ (all [] x y xs refl)
      (next_none (y ∷ xs) (λ before a b after is. all (x ∷ before) a b after (ap (λ (l : List ℕ). x ∷ l) is)))

-- ---- four characters in a row

module _ (test : ℕ → ℕ → ℕ → ℕ → Bool) where
  abbrev AreInRow : List ℕ → Type 0
  AreInRow xs =
      (before : List ℕ) (a b c d : ℕ) (after : List ℕ) → xs ≡ before ++ a ∷ b ∷ c ∷ d ∷ after → test a b c d ≡ false

  abbrev tested : List ℕ → Bool
  tested xs = list_any (λ four. test four.0.0 four.0.1 four.1.0 four.1.1) (fours xs)

  none_in_row : (xs : List ℕ) → tested xs ≡ false → AreInRow xs
  none_in_row [] none before a b c d after is =
      absurd (omega (arith, too_short [] before (a ∷ b ∷ c ∷ d ∷ after) 4 (omega arith) is))
  none_in_row (w ∷ []) none before a b c d after is =
      absurd (omega (arith, too_short (w ∷ []) before (a ∷ b ∷ c ∷ d ∷ after) 4 (omega arith) is))
  none_in_row (w ∷ x ∷ []) none before a b c d after is =
      absurd (omega (arith, too_short (w ∷ x ∷ []) before (a ∷ b ∷ c ∷ d ∷ after) 4 (omega arith) is))
  none_in_row (w ∷ x ∷ y ∷ []) none before a b c d after is =
      absurd (omega (arith, too_short (w ∷ x ∷ y ∷ []) before (a ∷ b ∷ c ∷ d ∷ after) 4 (omega arith) is))
  none_in_row (w ∷ x ∷ y ∷ z ∷ xs) none [] a b c d after is =
      let one : w ≡ a = cc in
      let two : x ≡ b = cc in
      let three : y ≡ c = cc in
      let four : z ≡ d = cc in
      (λ i. test (sym one i) (sym two i) (sym three i) (sym four i)) ∙ (or_parts (test w x y z) _ none).0
  none_in_row (w ∷ x ∷ y ∷ z ∷ xs) none (e ∷ before) a b c d after is =
      let rest : x ∷ y ∷ z ∷ xs ≡ before ++ a ∷ b ∷ c ∷ d ∷ after = cc in
      none_in_row (x ∷ y ∷ z ∷ xs) (or_parts (test w x y z) _ none).1 before a b c d after rest

  row_none : (xs : List ℕ) → AreInRow xs → tested xs ≡ false
  row_none [] all = refl
  row_none (w ∷ []) all = refl
  row_none (w ∷ x ∷ []) all = refl
  row_none (w ∷ x ∷ y ∷ []) all = refl
  row_none (w ∷ x ∷ y ∷ z ∷ xs) all =
      or_from (test w x y z) _ (all [] w x y z xs refl)
      (row_none (x ∷ y ∷ z ∷ xs)
      (λ before a b c d after is. all (w ∷ before) a b c d after (ap (λ (l : List ℕ). w ∷ l) is)))

-- ---- the last character

last_is : (other : ℕ) (before : List ℕ) (last : ℕ) → last_or other (before ++ last ∷ []) ≡ last
last_is other [] last = refl
last_is other (c ∷ before) last = last_is c before last

last_there : (c : ℕ) (text : List ℕ) → (before : List ℕ) × (c ∷ text ≡ before ++ last_or c text ∷ [])
last_there c [] = ([], refl)
last_there c (d ∷ text) =
    let rest = last_there d text in
    (c ∷ rest.0, ap (λ (l : List ℕ). c ∷ l) rest.1)

-- ---- blanks

usual : (a b : ℕ) → (is_unusual a b ≡ false) ↔ (is_blank b ≡ true → (b ≡ 32) × (is_blank a ≡ false))
usual a b = (
  λ none is.
      elim (and_cases (is_blank b) (not (b == 32) || is_blank a) none) [
        | inl fails ↦ absurd (both_ways (is_blank b) fails is)
        | inr neither ↦
            let parts = or_parts (not (b == 32)) (is_blank a) neither in
            (eqb-true b 32 (not-false (b == 32) parts.0), parts.1)
      ],
  λ even.
      elim (cases_Bool (is_blank b)) [
        | inl is ↦
            and_right (is_blank b) (not (b == 32) || is_blank a)
            (or_from (not (b == 32)) (is_blank a) (not_from_true (b == 32) (eq-eqb b 32 (even is).0)) (even is).1)
        | inr fails ↦ and_left (is_blank b) (not (b == 32) || is_blank a) fails
      ],
)

no_last : (text : List ℕ) → IsEvenlySpaced text → is_blank (last_or 0 text) ≡ false
no_last [] even = refl
no_last (c ∷ text) even = let there = last_there c text in even.last there.0 (last_or c text) there.1

blanks_free : (text : List ℕ) → (has_unusual_blanks text ≡ false) ↔ IsEvenlySpaced text
blanks_free text = (
  λ none.
      let parts = or_parts _ (is_blank (last_or 0 text)) none in
      record {
        blanks = λ before a b after is blank. (usual a b).0 (none_next is_unusual (32 ∷ text) parts.0 before a b after is) blank;
        last = λ before last is.
            ap is_blank (sym (last_is 0 before last)) ∙ (ap (λ (l : List ℕ). is_blank (last_or 0 l)) (sym is) ∙ parts.1);
      },
  λ even.
      or_from _ (is_blank (last_or 0 text))
      (next_none is_unusual (32 ∷ text) (λ before a b after is. (usual a b).1 (even.blanks before a b after is)))
      (no_last text even),
)

-- ---- numbers

number_free : (text : List ℕ) → (is_number text ≡ false) ↔ IsNoNumber text
number_free text = (
  λ none digit there is.
      elim (and_cases (has Digit text) (not (has BeyondNumbers text)) none) [
        | inl fails ↦ absurd (both_ways (has Digit text) fails (find (is_of Digit) text digit there is))
        | inr some ↦
            let other = found (is_of BeyondNumbers) text (not-false (has BeyondNumbers text) some) in
            (other.0, other.1, not-true (is_between 32 63 other.0) other.2)
      ],
  λ all.
      elim (cases_Bool (has Digit text)) [
        | inl is ↦
            let digit = found (is_of Digit) text is in
            let other = all digit.0 digit.1 digit.2 in
            and_right (has Digit text) (not (has BeyondNumbers text))
            (not_from_true (has BeyondNumbers text)
            (find (is_of BeyondNumbers) text other.0 other.1 (not_from_false (is_between 32 63 other.0) other.2)))
        | inr fails ↦ and_left (has Digit text) (not (has BeyondNumbers text)) fails
      ],
)

-- ---- bytes

-- of bytes that are a text it is said as of its characters, and of others nothing
texts_free :
    (bytes : List ℕ) (odd : Bool) (P : Type 0) → ((odd ≡ false) ↔ P)
    → ((if is_utf8 bytes then odd else false) ≡ false) ↔ (IsUtf8 bytes → P)
texts_free bytes odd P both = (
  λ none text.
      both.0 (ap (λ (b : Bool). if b then odd else false) (sym (is_utf8-from_IsUtf8 bytes text)) ∙ none),
  λ all.
      elim (cases_Bool (is_utf8 bytes)) [
        | inl text ↦
            ap (λ (b : Bool). if b then odd else false) text ∙ both.1 (all (IsUtf8-from_is_utf8 bytes text))
        | inr other ↦ ap (λ (b : Bool). if b then odd else false) other
      ],
)

-- the bytes lack the oddity exactly where they are free of it
pub free : (oddity : Oddity) (bytes : List ℕ) → (is_odd oddity bytes ≡ false) ↔ IsFree oddity bytes
free OtherBytes bytes = (
  λ none.
      elim (cases_Bool (is_utf8 bytes)) [
        | inl text ↦ IsUtf8-from_is_utf8 bytes text
        | inr other ↦
            absurd (both_ways (is_odd OtherBytes bytes) none (ap (λ (b : Bool). if b then false else true) other))
      ],
  λ text. ap (λ (b : Bool). if b then false else true) (is_utf8-from_IsUtf8 bytes text),
)
free DirectionalMark bytes =
    texts_free bytes (has_oddity DirectionalMark (chars bytes)) _ (none_of is_directional (chars bytes))
free HiddenCharacter bytes = texts_free bytes (has_oddity HiddenCharacter (chars bytes)) _ (none_of is_hidden (chars bytes))
free StraySign bytes =
    let text = 32 ∷ 32 ∷ 32 ∷ chars bytes in
    texts_free bytes (has_stray_sign (chars bytes)) _ (none_in_row is_stray text, row_none is_stray text)
free UnusualBlanks bytes = texts_free bytes (has_unusual_blanks (chars bytes)) _ (blanks_free (chars bytes))
free SeveralScripts bytes =
    let count = count_by (λ script. has script (chars bytes)) scripts in
    texts_free bytes (has_several_scripts (chars bytes)) _ (ltb-false 1 count, le-ltb 1 count)
free Number bytes = texts_free bytes (is_number (chars bytes)) _ (number_free (chars bytes))
