use Rattle.std.proofs.Common.{◌≡◌, ℕ, ◌≤◌, List, length, subst, arith, true}
use Rattle.std.specs.Bool.{IsTrue}
use Rattle.lot_draw.specs.Words.{IsSeed}
use Rattle.lot_draw.proofs.words.is_seed.Goals as goal

pub returns-then-is_printed : goal.returns-then-is_printed
returns-then-is_printed c =
    let seed = c.as_bytes-bytes.result.now in
    let some : 1 ≤ length seed = omega (arith, c.if-len-eq0.false) in
    subst (λ (word : List ℕ). (IsTrue c.are_apart.result → IsSeed word) × (IsSeed word → IsTrue c.are_apart.result))
    c.as_bytes-bytes.ensures.value (
      λ apart. record {
        some = some;
        short = c.if-len-gt-LONGEST_SEED.false;
        printed = c.is_printed.ensures.0 c.if-is_printed.true;
        begins = c.if-bytes-eq-BLANK.false;
        ends = c.if-bytes-len-eq-BLANK.false;
        apart = c.are_apart.ensures.0 apart;
      },
      λ is. c.are_apart.ensures.1 is.apart,
    )

pub returns-else-is_printed : goal.returns-else-is_printed
returns-else-is_printed c =
    subst (λ (word : List ℕ). (IsTrue c.is_printed.result → IsSeed word) × (IsSeed word → IsTrue c.is_printed.result))
    c.as_bytes-bytes.ensures.value
    (λ printed. absurd (let yes : c.is_printed.result ≡ true = printed in cc), λ is. c.is_printed.ensures.1 is.printed)
