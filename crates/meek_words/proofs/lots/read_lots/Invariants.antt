use Rattle.std.proofs.Common.{◌≡◌, ◌≤◌, length, map, All}
use Rattle.meek_words.specs.Numerals.{IsNumeral, number_of}
use Rattle.meek_words.proofs.lots.read_lots.Given as goal

-- the pieces so far are numerals, and the lots are their numbers
abbrev pub invariant-loop-part : goal.invariant-loop-part
invariant-loop-part l = record {
  numerals : All IsNumeral (map (λ piece. piece.now) l.yielded);
  numbers : l.lots ≡ map number_of (map (λ piece. piece.now) l.yielded);
  few : length l.yielded ≤ 250;
}
