use Rattle.std.proofs.Common.{◌≡◌, ℕ, ◌<◌, take, get_or, true}
use Rattle.std.specs.Char.{is_ascii_digit}
use Rattle.input_text.specs.Scan.{number}
use Rattle.input_text.proofs.pieces.front_number.Given as goal

abbrev pub invariant-loop-n : goal.invariant-loop-n
invariant-loop-n l = record {
  so_far : l.value ≡ number (take l.n l.bytes);
  digits : (k : ℕ) → k < l.n → is_ascii_digit (get_or l.bytes k 0) ≡ true;
}
