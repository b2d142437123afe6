use Rattle.std.proofs.Common.{◌++◌, arith}
use Rattle.std.specs.Prelude.{codes, decimal}
use Rattle.sheet_reader.proofs.Cuts.{none_some, some_is, without_none}
use Rattle.sheet_reader.proofs.WordLines.{behind_word, number_cut, number_text}
use Rattle.sheet_reader.proofs.row_reader.read_numbers.Goals as goal

pub returns-in_default-cut : goal.returns-in_default-cut
returns-in_default-cut c r i rest small few is =
    without_none 32 (decimal r) (codes "iteration " ++ decimal i) _ c.in_default-cut.ensures
    (number_text r i c.in-Some.text.now _ _ rest c.in-Some.ensures is)

pub returns-in_default-strip : goal.returns-in_default-strip
returns-in_default-strip c r i rest small few is =
    let cut =
    number_cut _ _ _ (codes "iteration " ++ decimal i) r c.in-Some-cut.ensures.0 c.in-Some-cut.ensures.1
    (omega (arith, small)) (number_text r i c.in-Some.text.now _ _ rest c.in-Some.ensures is) in
    c.in_default-strip.ensures (decimal i) cut.1

pub returns-in_default-read_count : goal.returns-in_default-read_count
returns-in_default-read_count c r i rest small few is =
    let cut =
    number_cut _ _ _ (codes "iteration " ++ decimal i) r c.in-Some-cut.ensures.0 c.in-Some-cut.ensures.1
    (omega (arith, small)) (number_text r i c.in-Some.text.now _ _ rest c.in-Some.ensures is) in
    none_some _ r c.in_default-read_count.is (c.read_count.ensures.whole r (omega (arith, small)) cut.0)

pub returns-in_default-read_count-2 : goal.returns-in_default-read_count-2
returns-in_default-read_count-2 c r i rest small few is =
    let cut =
    number_cut _ _ _ (codes "iteration " ++ decimal i) r c.in-Some-cut.ensures.0 c.in-Some-cut.ensures.1
    (omega (arith, small)) (number_text r i c.in-Some.text.now _ _ rest c.in-Some.ensures is) in
    none_some _ i c.in_default-read_count-2.is (c.read_count-2.ensures.whole i few
    (behind_word (codes "iteration ") _ c.in-Some-strip.iteration.now (decimal i)
    c.in-Some-strip.ensures cut.1))

pub returns-then-round : goal.returns-then-round
returns-then-round c r i rest small few is =
    let cut =
    number_cut _ _ _ (codes "iteration " ++ decimal i) r c.in-Some-cut.ensures.0 c.in-Some-cut.ensures.1
    (omega (arith, small)) (number_text r i c.in-Some.text.now _ _ rest c.in-Some.ensures is) in
    let same = some_is _ _ _ c.in-Some-read_count.is (c.read_count.ensures.whole r (omega (arith, small)) cut.0) in
    omega (arith, same, small, c.if-round.true)
