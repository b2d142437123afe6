use Rattle.std.proofs.Common.{◌≡◌, take}
use Rattle.preflib_text.specs.Reading.{capped}
use Rattle.preflib_text.specs.Texts.{value}
use Rattle.preflib_text.proofs.numeral.value.Given as goal

-- the number that the digits so far write
abbrev pub invariant-loop-digit : goal.invariant-loop-digit
invariant-loop-digit l = record { so_far : l.value ≡ capped (value (take l.digit-index l.digits)) }
