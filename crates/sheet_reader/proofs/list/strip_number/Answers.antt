use Rattle.std.proofs.Common.{ℕ, List, sym, ◌∙◌, subst}
use Rattle.sheet_reader.specs.Cut.{IsListRest}
use Rattle.sheet_reader.proofs.Digits.{false-ne_true}
use Rattle.sheet_reader.proofs.LineLemmas.{same_behind}
use Rattle.sheet_reader.proofs.list.strip_number.Goals as goal

pub returns-else-ends_or_goes_on : goal.returns-else-ends_or_goes_on
returns-else-ends_or_goes_on c behind on is =
    let same =
    same_behind c.args.c c.in-Some.number.now _ _ c.in-Some-strip.behind.now behind c.in-Some.ensures
    c.in-Some-strip.ensures (c.as_bytes.ensures.value ∙ c.format.ensures.text) is in
    false-ne_true (c.if-ends_or_goes_on.ensures.1 (subst (λ (t : List ℕ). IsListRest t) (sym same) on))
