use Rattle.std.proofs.Common.{◌≡◌, take}
use Rattle.std.specs.Str.Parse.{AllDigits}
use Rattle.meek_words.specs.Numerals.{number_of}
use Rattle.meek_words.proofs.numeral.numeral.Given as goal

-- the digits so far are digits, and the number is theirs
abbrev pub invariant-loop-digit : goal.invariant-loop-digit
invariant-loop-digit l = record {
  digits : AllDigits 10 (take l.digit-index l.word);
  number : l.number ≡ number_of (take l.digit-index l.word);
}
