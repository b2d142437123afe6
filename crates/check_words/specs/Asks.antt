-- What the words ask for.
use Rattle.std.specs.Prelude.{◌≡◌, ℕ, List, [], ◌∷◌, codes}
use Rattle.std.specs.List.{flat_map}
use Rattle.fixed_place.specs.declared.omega.TheConstants.{MOST_OMEGA, USUAL_OMEGA}
use Rattle.meek_words.specs.Numerals.{Word, IsNumeralUpTo, IsLotList, number_of}
use Rattle.check_words.specs.Pairs.{Said, words_of, values_of}
use Rattle.check_words.specs.declared.asked.Asked.{Asked}
use Rattle.check_words.specs.declared.check_option.CheckOption.{CheckOption}
use Rattle.check_words.specs.declared.check_option.CheckOption.TheVariants as options
use Rattle.check_words.specs.declared.count_rule.CountRule.{CountRule}
use Rattle.check_words.specs.declared.count_rule.CountRule.TheVariants.{Meek, Warren}
use Rattle.check_words.specs.declared.places.Places.{Places}
use Rattle.check_words.specs.declared.places.Places.TheVariants.{Six, Seven, Eight, Nine}

-- just one value, of which P holds
abbrev pub IsOnce : (Word → Type 0) → List Word → Type 0
IsOnce P (word ∷ []) = P word
IsOnce P words = ⊥

-- at most one value, of which P holds; where there is none, it is as by default
abbrev pub IsAtMostOnce : Type 0 → (Word → Type 0) → List Word → Type 0
IsAtMostOnce ByDefault P [] = ByDefault
IsAtMostOnce ByDefault P (word ∷ []) = P word
IsAtMostOnce ByDefault P (word ∷ again ∷ words) = ⊥

-- one list of lots
abbrev pub AreLots : List Word → List ℕ → Type 0
AreLots values lots = IsOnce (λ word. IsLotList word lots) values

abbrev pub rule_word : CountRule → Word
rule_word Meek = codes "meek"
rule_word Warren = codes "warren"

-- a rule's word; where none is said it is Meek's
abbrev pub IsRule : List Word → CountRule → Type 0
IsRule values rule = IsAtMostOnce (rule ≡ Meek) (λ word. word ≡ rule_word rule) values

abbrev pub places_word : Places → Word
places_word Six = codes "6"
places_word Seven = codes "7"
places_word Eight = codes "8"
places_word Nine = codes "9"

-- one digit from 6 to 9; where none is said these are nine places
abbrev pub ArePlaces : List Word → Places → Type 0
ArePlaces values places = IsAtMostOnce (places ≡ Nine) (λ word. word ≡ places_word places) values

-- a numeral of 1 to 1,000,000 units
abbrev pub SaysOmega : Word → ℕ → Type 0
SaysOmega word omega = IsNumeralUpTo MOST_OMEGA word × (omega ≡ number_of word)

-- such a numeral; where none is said it is 1,000 units
abbrev pub IsOmega : List Word → ℕ → Type 0
IsOmega values omega = IsAtMostOnce (omega ≡ USUAL_OMEGA) (λ word. SaysOmega word omega) values

-- the values of the options say this
pub record Says (values : CheckOption → List Word) (asked : Asked) : Type 0 where
  pub lots : AreLots (values options.Lots) asked.lots
  pub rule : IsRule (values options.Rule) asked.rule
  pub places : ArePlaces (values options.Places) asked.places
  pub omega : IsOmega (values options.Omega) asked.omega

-- the words are options with their values, in any order, which say this
pub record Asks (words : List Word) (asked : Asked) : Type 0 where
  pub pairs : List Said
  pub spelled : words ≡ flat_map words_of pairs
  pub says : Says (values_of pairs) asked
