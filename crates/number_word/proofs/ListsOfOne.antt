-- A numeral is a list of just one number.
use Rattle.std.proofs.Common.{◌≡◌, ◌≤◌, ◌∙◌, refl, sym, ap, subst, ℕ, List, [], ◌∷◌, map, arith, get_or, length}
use Rattle.std.specs.Prelude.{All}
use Rattle.std.specs.List.{join_with_byte}
use Rattle.std.proofs.lemmas.List.Elements.{All-head, All-cons, All-nil}
use Rattle.meek_words.specs.Numerals.{Word, IsNumeral, IsNumeralUpTo, IsLotList, number_of}
use Rattle.number_word.specs.Number.{Says}

-- a numeral is such a list
list_of_one : (word : Word) → IsNumeral word → IsLotList word (number_of word ∷ [])
list_of_one word numeral = record {
  parts = word ∷ [];
  joined = refl;
  numerals = All-cons IsNumeral word [] numeral (All-nil IsNumeral);
  numbers = refl;
  some = omega arith;
  most = omega arith;
}

-- and such a list is a numeral
numeral_of_one : (word : Word) (n : ℕ) → IsLotList word (n ∷ []) → IsNumeral word × (n ≡ number_of word)
numeral_of_one word n list = by list.parts list.joined list.numerals list.numbers
  where
    by :
        (parts : List Word) → word ≡ join_with_byte 44 parts → All IsNumeral parts → n ∷ [] ≡ map number_of parts
        → IsNumeral word × (n ≡ number_of word)
    by [] joined numerals numbers = absurd (omega (arith, ap length numbers))
    by (part ∷ []) joined numerals numbers = (
      subst IsNumeral (sym joined) (All-head IsNumeral part [] numerals),
      ap (λ (l : List ℕ). get_or l 0 0) numbers ∙ ap number_of (sym joined),
    )
    by (part ∷ other ∷ parts) joined numerals numbers = absurd (omega (arith, ap length numbers))

module _ (greatest : ℕ) (word bytes : Word) (same : bytes ≡ word) where
  -- the only number of a list is the word's
  pub said : (numbers slice : List ℕ) (n : ℕ) → IsLotList bytes numbers → slice ≡ numbers → slice ≡ n ∷ [] → 1 ≤ n
      → n ≤ greatest → Says greatest word n
  said numbers slice n list all only least most =
      let one =
      numeral_of_one word n
      (subst (λ (w : Word). IsLotList w (n ∷ [])) same
      (subst (λ (ns : List ℕ). IsLotList bytes ns) (sym all ∙ only) list)) in
      (record { numeral = one.0; least = omega (arith, one.1, least); most = omega (arith, one.1, most) }, one.1)

  -- where no list is the word's, it writes no number
  pub no_list : ((numbers : List ℕ) → ¬ IsLotList bytes numbers) → ¬ IsNumeralUpTo greatest word
  no_list none numeral =
      none (number_of word ∷ [])
      (subst (λ (w : Word). IsLotList w (number_of word ∷ [])) (sym same) (list_of_one word numeral.numeral))

  -- nor where its list is no such number alone
  pub no_number :
      (numbers slice : List ℕ) → slice ≡ numbers → ((lots : List ℕ) → IsLotList bytes lots → numbers ≡ lots)
      → ((n : ℕ) → slice ≡ n ∷ [] → 1 ≤ n → n ≤ greatest → ⊥) → ¬ IsNumeralUpTo greatest word
  no_number numbers slice all one none numeral =
      none (number_of word)
      (all ∙ one (number_of word ∷ [])
      (subst (λ (w : Word). IsLotList w (number_of word ∷ [])) (sym same) (list_of_one word numeral.numeral)))
      numeral.least numeral.most
