use Rattle.std.proofs.Common.{◌≡◌, true, ◌-◌, ◌∙◌, arith}
use Rattle.lot_order.specs.Flags.{mark_at}
use Rattle.sheet_text.specs.Lines.{listed}
use Rattle.sheet_reader.proofs.WordLines.{defeat_once, defeated_small}
use Rattle.sheet_reader.proofs.decision.read_defeat.Goals as goal

pub returns-in_default-clause-read : goal.returns-in_default-clause-read
returns-in_default-clause-read c n others long has is =
    c.in_default.ensures n (listed 1 others)
    (omega (arith, c.requires.few, defeated_small n _ others c.requires.few long has)) is

pub returns-then-not-read_list-clause-read : goal.returns-then-not-read_list-clause-read
returns-then-not-read_list-clause-read c n others long has is =
    let small = defeated_small n _ others c.requires.few long has in
    let once =
    defeat_once _ n _ _ (listed 1 others) c.in-Some.ensures.0 (omega (arith, c.requires.few, small))
    c.in-Some.ensures.1 is in
    let w = (c.read_list.ensures.whole others long once.1).0 in cc

pub returns-then-c-lt1-clause-read : goal.returns-then-c-lt1-clause-read
returns-then-c-lt1-clause-read c n others long has is =
    let small = defeated_small n _ others c.requires.few long has in
    let once =
    defeat_once _ n _ _ (listed 1 others) c.in-Some.ensures.0 (omega (arith, c.requires.few, small))
    c.in-Some.ensures.1 is in
    omega (arith, once.0, has.0, c.if-c-lt1.true)

pub returns-then-c-len-clause-read : goal.returns-then-c-len-clause-read
returns-then-c-len-clause-read c n others long has is =
    let small = defeated_small n _ others c.requires.few long has in
    let once =
    defeat_once _ n _ _ (listed 1 others) c.in-Some.ensures.0 (omega (arith, c.requires.few, small))
    c.in-Some.ensures.1 is in
    omega (arith, once.0, small, c.if-c-len.true, c.len.ensures, c.read_list.ensures.same_length)

pub returns-then-not-get-clause-read : goal.returns-then-not-get-clause-read
returns-then-not-get-clause-read c n others long has is =
    let small = defeated_small n _ others c.requires.few long has in
    let once =
    defeat_once _ n _ _ (listed 1 others) c.in-Some.ensures.0 (omega (arith, c.requires.few, small))
    c.in-Some.ensures.1 is in
    let marks = (c.read_list.ensures.whole others long once.1).1 in
    let marked : mark_at c.read_list.new.marks (c.in-Some.c - 1) ≡ true = (λ i. mark_at (marks i) (once.0 i - 1)) ∙ has.1 in
    let told = c.get.ensures.mark in cc
