-- Words of an audit, worked by hand.
use Rattle.std.proofs.Common.{◌≡◌, ℕ, ◌≤◌, length, refl, sym, arith, codes, true}
use Rattle.std.specs.List.{list_all}
use Rattle.std.specs.Char.{is_ascii_digit}
use Rattle.std.proofs.lemmas.List.Sums.{AllPass-from_list_all}
use Rattle.meek_words.specs.Numerals.{Word, number_of}
use Rattle.number_word.specs.Number.{Says}
use Rattle.day_audit.specs.Worked.{WorkedWords}

-- a word of few digits says its number
pub numeral :
    (greatest : ℕ) (word : Word) (n : ℕ) → list_all is_ascii_digit word ≡ true → 1 ≤ length word → length word ≤ 9
    → number_of word ≡ n → 1 ≤ n → n ≤ greatest → Says greatest word n
numeral greatest word n digits some short value least most = (
  record {
    numeral = record { some = some; short = short; digits = AllPass-from_list_all is_ascii_digit word digits };
    least = omega (arith, value, least);
    most = omega (arith, value, most);
  },
  sym value,
)

pub worked_words : WorkedWords
worked_words = record {
  none = refl;
  least = (codes "1", refl, numeral 1000 (codes "1") 1 refl (omega arith) (omega arith) refl (omega arith) (omega arith));
  greatest = (
    codes "1000",
    refl,
    numeral 1000 (codes "1000") 1000 refl (omega arith) (omega arith) refl (omega arith) (omega arith),
  );
  too_many = λ takes. absurd (omega (arith, takes.2.0.most, takes.2.1));
  nought = λ takes. absurd (omega (arith, takes.2.0.least, takes.2.1));
}
