use Rattle.std.proofs.Common.{◌≤◌, All, refl, subst, arith, get_or}
use Rattle.std.proofs.lemmas.List.{take_all}
use Rattle.std.proofs.lemmas.List.Elements.{All-more}
use Rattle.std.proofs.lemmas.Bool.Decides.{nat_tests}
use Rattle.lot_draw.specs.Words.{IsPrinted}
use Rattle.lot_draw.proofs.words.is_printed.Goals as goal

pub loop-byte-preserved : goal.loop-byte-preserved
loop-byte-preserved c =
    let least : 32 ≤ get_or c.args.bytes.now c.loop-byte.byte-index 0 = grind (arith, nat_tests) in
    let most : get_or c.args.bytes.now c.loop-byte.byte-index 0 ≤ 126 = grind (arith, nat_tests) in
    All-more IsPrinted c.args.bytes.now c.loop-byte.byte-index 0 c.loop-byte-test.true c.loop-byte.invariant (least, most)

pub returns : goal.returns
returns c =
    let whole = take_all c.loop-byte.byte-index c.args.bytes.now c.loop-byte-test.false in
    (λ _. subst (All IsPrinted) whole c.loop-byte.invariant, λ _. refl)
