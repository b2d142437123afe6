use Rattle.std.proofs.Common.{◌≡◌, ◌%◌, ◌<◌, take}
use Rattle.lot_draw.specs.Draw.{big_endian}
use Rattle.lot_draw.proofs.draw.remainder.Given as goal

abbrev pub invariant-loop-byte : goal.invariant-loop-byte
invariant-loop-byte l = record {
  value : l.rest ≡ big_endian (take l.byte-index l.bytes) % l.modulus;
  below : l.rest < l.modulus;
}
