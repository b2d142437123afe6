-- What a text is as a number.
use Rattle.std.specs.Prelude.{ℕ, nat_le, if◌then◌else◌, Option, Some, None}
use Rattle.ballot_table.specs.declared.numeral.Numeral.{Numeral}
use Rattle.ballot_table.specs.declared.numeral.Numeral.TheVariants.{Other, Number, Greater}

-- none, or one up to the greatest that is asked for, or a greater one
abbrev pub numeral_of : (most : ℕ) → Option ℕ → Numeral
numeral_of most None = Other
numeral_of most (Some n) = if nat_le n most then Number n else Greater
