use Rattle.std.proofs.Common.{ℕ, sym, ◌∙◌, ap, arith}
use Rattle.std.specs.Prelude.{decimal}
use Rattle.day_text.proofs.Cuts.{false-ne_true, some_is, numeral_here}
use Rattle.day_text.proofs.number.read_number.Goals as goal

pub returns-in_default-clause-whole : goal.returns-in_default-clause-whole
returns-in_default-clause-whole c n up is =
    sym c.in_default.is ∙ c.guess.ensures n (numeral_here _ n (omega (arith, up.1)) is)

pub returns-then-n-lt1-clause-whole : goal.returns-then-n-lt1-clause-whole
returns-then-n-lt1-clause-whole c n up is =
    let same = some_is _ _ _ c.in-Some.is (c.guess.ensures n (numeral_here _ n (omega (arith, up.1)) is)) in
    absurd (omega (arith, same, up.0, c.if-n-lt1.true))

pub returns-then-n-most-clause-whole : goal.returns-then-n-most-clause-whole
returns-then-n-most-clause-whole c n up is =
    let same = some_is _ _ _ c.in-Some.is (c.guess.ensures n (numeral_here _ n (omega (arith, up.1)) is)) in
    absurd (omega (arith, same, up.1, c.if-n-most.true))

pub returns-then-is_same-clause-whole : goal.returns-then-is_same-clause-whole
returns-then-is_same-clause-whole c n up is =
    sym c.in-Some.is ∙ c.guess.ensures n (numeral_here _ n (omega (arith, up.1)) is)

pub returns-else-is_same-clause-whole : goal.returns-else-is_same-clause-whole
returns-else-is_same-clause-whole c n up is =
    let same = some_is _ _ _ c.in-Some.is (c.guess.ensures n (numeral_here _ n (omega (arith, up.1)) is)) in
    let written = c.as_bytes.ensures.value ∙ c.format.ensures.text ∙ ap (λ (m : ℕ). decimal m) same ∙ sym is in
    absurd (false-ne_true (c.if-is_same.ensures.1 written))
