use Rattle.std.proofs.Common.{arith}
use Rattle.sheet_reader.proofs.Cuts.{none_some, some_is}
use Rattle.sheet_reader.proofs.WordLines.{same_line}
use Rattle.sheet_reader.proofs.head.read_number.Goals as goal

pub returns-in_default-read_count : goal.returns-in_default-read_count
returns-in_default-read_count c n rest lo hi is =
    none_some _ n c.in_default-read_count.is (c.read_count.ensures.whole n (omega (arith, hi))
    (same_line c.args.word.now _ _ _ _ rest c.in-Some.ensures is).0)

pub returns-then-n-least : goal.returns-then-n-least
returns-then-n-least c n rest lo hi is =
    let same =
    some_is _ _ _ c.in-Some-read_count.is (c.read_count.ensures.whole n (omega (arith, hi))
    (same_line c.args.word.now _ _ _ _ rest c.in-Some.ensures is).0) in
    omega (arith, same, lo, c.if-n-least.true)

pub returns-then-n-most : goal.returns-then-n-most
returns-then-n-most c n rest lo hi is =
    let same =
    some_is _ _ _ c.in-Some-read_count.is (c.read_count.ensures.whole n (omega (arith, hi))
    (same_line c.args.word.now _ _ _ _ rest c.in-Some.ensures is).0) in
    omega (arith, same, hi, c.if-n-most.true)
