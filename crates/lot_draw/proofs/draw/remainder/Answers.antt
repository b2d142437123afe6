use Rattle.std.proofs.Common.{◌≡◌, ◌∙◌, ap, ℕ, ◌+◌, ◌*◌, ◌%◌, get_or, arith}
use Rattle.lot_draw.proofs.Numbers.{remainder-more}
use Rattle.lot_draw.proofs.draw.remainder.Goals as goal

pub loop-byte-preserved : goal.loop-byte-preserved
loop-byte-preserved c =
    let bytes = c.args.bytes.now in
    let i : ℕ = c.loop-byte.byte-index in
    let m : ℕ = c.args.modulus in
    let byte : c.from.result ≡ get_or bytes i 0 = c.from.ensures in
    record {
      value =
          ap (λ (b : ℕ). (c.loop-byte.rest * 256 + b) % m) byte
          ∙ remainder-more bytes i m c.loop-byte.rest c.loop-byte-test.true c.requires.some
          c.loop-byte.invariant.value;
      below = omega (arith, c.requires.some);
    }
