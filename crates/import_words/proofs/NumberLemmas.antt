-- A word that writes one number, read as a list of just one.
use Rattle.std.proofs.Common.{◌≡◌, ◌∙◌, refl, sym, ap, subst, ℕ, ◌≤◌, List, [], ◌∷◌, length, map, get_or, arith}
use Rattle.std.specs.Prelude.{All, Result, Err}
use Rattle.std.specs.List.{join_with_byte}
use Rattle.std.proofs.lemmas.List.Elements.{All-head, All-cons, All-nil}
use Rattle.meek_words.specs.Numerals.{Word, IsNumeral, IsNumeralUpTo, IsLotList, number_of}

-- a numeral is such a list
pub list-of_one : (word : Word) → IsNumeral word → IsLotList word (number_of word ∷ [])
list-of_one word numeral = record {
  parts = word ∷ [];
  joined = refl;
  numerals = All-cons IsNumeral word [] numeral (All-nil IsNumeral);
  numbers = refl;
  some = omega arith;
  most = omega arith;
}

-- and has no other word
part-of_one :
    (word : Word) (lots : List ℕ) (parts : List Word) → word ≡ join_with_byte 44 parts → All IsNumeral parts
    → lots ≡ map number_of parts → length lots ≡ 1 → IsNumeral word × (get_or lots 0 0 ≡ number_of word)
part-of_one word lots [] joined numerals numbers one =
    absurd (omega (arith, one, ap length numbers))
part-of_one word lots (part ∷ []) joined numerals numbers one = (
  subst IsNumeral (sym joined) (All-head IsNumeral part [] numerals),
  ap (λ (l : List ℕ). get_or l 0 0) numbers ∙ ap number_of (sym joined),
)
part-of_one word lots (part ∷ other ∷ parts) joined numerals numbers one =
    absurd (omega (arith, one, ap length numbers))

pub one-of_list :
    (word : Word) (lots : List ℕ) → IsLotList word lots → length lots ≡ 1
    → IsNumeral word × (get_or lots 0 0 ≡ number_of word)
one-of_list word lots list one = part-of_one word lots list.parts list.joined list.numerals list.numbers one

-- what one number of a list says
pub numeral_taken :
    (bytes word : Word) (lots items : List ℕ) (n : ℕ) → bytes ≡ word → IsLotList bytes lots → items ≡ lots
    → length items ≡ 1 → get_or items 0 0 ≡ n → 1 ≤ n → n ≤ 250
    → IsNumeralUpTo 250 word × (n ≡ number_of word)
numeral_taken bytes word lots items n same list are one is some few =
    let read = one-of_list word lots (subst (λ (w : Word). IsLotList w lots) same list)
    (sym (ap length are) ∙ one) in
    let value : n ≡ number_of word = sym is ∙ ap (λ (l : List ℕ). get_or l 0 0) are ∙ read.1 in
    (record { numeral = read.0; least = omega (arith, value, some); most = omega (arith, value, few) }, value)

-- a numeral is not refused as a list
pub numeral_listed :
    (bytes word : Word) → bytes ≡ word → IsNumeralUpTo 250 word → IsLotList bytes (number_of word ∷ [])
numeral_listed bytes word same numeral =
    subst (λ (w : Word). IsLotList w (number_of word ∷ [])) (sym same) (list-of_one word numeral.numeral)

-- nor as its only number
pub numeral_only :
    (word : Word) (lots items : List ℕ) → lots ≡ number_of word ∷ [] → items ≡ lots → IsNumeralUpTo 250 word
    → (length items ≡ 1 → 1 ≤ get_or items 0 0 → get_or items 0 0 ≤ 250 → ⊥) → ⊥
numeral_only word lots items one are numeral none =
    let is : items ≡ number_of word ∷ [] = are ∙ one in
    let value : get_or items 0 0 ≡ number_of word = ap (λ (l : List ℕ). get_or l 0 0) is in
    none (ap length is) (omega (arith, value, numeral.least)) (omega (arith, value, numeral.most))

-- an error is one error, whatever a success would give
pub stop_is : {A E : Type 0} (e f : E) (r : Result A E) → r ≡ Err e → r ≡ Err f → e ≡ f
stop_is e f r one other = cc
