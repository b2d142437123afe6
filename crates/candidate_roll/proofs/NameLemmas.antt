-- A name that grows by one byte.
use Rattle.std.proofs.Common.{ℕ, ◌+◌, ◌<◌, ◌≤◌, List, length, get_or, take, arith}
use Rattle.std.proofs.lemmas.List.{length-take-le}
use Rattle.std.proofs.lemmas.List.Elements.{All-more}
use Rattle.candidate_roll.specs.Name.{IsName, IsPrintable}

pub IsName-more :
    (most : ℕ) (bytes : List ℕ) (i : ℕ) → IsName most (take i bytes) → i < length bytes → length bytes ≤ most
    → IsPrintable (get_or bytes i 0) → IsName most (take (i + 1) bytes)
IsName-more most bytes i name below short printable = record {
  short = omega (arith, length-take-le (i + 1) bytes (omega arith));
  printable = All-more IsPrintable bytes i 0 below name.printable printable;
}
