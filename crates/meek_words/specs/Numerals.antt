-- Numbers and lists of lots as a command line writes them. A word is a list of bytes.
use Rattle.std.specs.Prelude.{◌≡◌, ◌≤◌, ℕ, List, length, map, All}
use Rattle.std.specs.List.{AllPass, join_with_byte}
use Rattle.std.specs.Char.{is_ascii_digit}
use Rattle.std.specs.Str.Parse.{digits_value}
use Rattle.plain_ballots.specs.declared.limits.TheConstants.{MOST_CANDIDATES}

abbrev pub Word : Type 0
Word = List ℕ

-- 1 to 9 digits, leading zeros included
pub record IsNumeral (word : Word) : Type 0 where
  pub some : 1 ≤ length word
  pub short : length word ≤ 9
  pub digits : AllPass is_ascii_digit word

-- the number that a numeral writes
abbrev pub number_of : Word → ℕ
number_of word = digits_value 10 word

-- a numeral of a number from 1 to the greatest
pub record IsNumeralUpTo (greatest : ℕ) (word : Word) : Type 0 where
  pub numeral : IsNumeral word
  pub least : 1 ≤ number_of word
  pub most : number_of word ≤ greatest

-- 1 to 250 numerals with a comma (44) between each two, and their numbers in the same order
pub record IsLotList (word : Word) (lots : List ℕ) : Type 0 where
  pub parts : List Word
  pub joined : word ≡ join_with_byte 44 parts
  pub numerals : All IsNumeral parts
  pub numbers : lots ≡ map number_of parts
  pub some : 1 ≤ length parts
  pub most : length parts ≤ MOST_CANDIDATES

-- a word is at most one list of lots
abbrev pub HaveOneLotList : Type 0
HaveOneLotList = (word : Word) (one other : List ℕ) → IsLotList word one → IsLotList word other → one ≡ other
