use Rattle.std.proofs.Common.{ℕ, List, [], ◌∷◌, ◌++◌, replicate, ◌∙◌, ap, sym, arith}
use Rattle.std.specs.Prelude.{Option, None}
use Rattle.std.proofs.lemmas.Grind.{replicate_next}
use Rattle.day_text.specs.declared.batch_end.BatchEnd.{BatchEnd}
use Rattle.day_text.proofs.ending.none_entered.Goals as goal

pub returns : goal.returns
returns c =
    c.loop.invariant
    ∙ ap (λ (n : ℕ). replicate {A = Option BatchEnd} n None) {x = c.loop.counter} {y = 9999}
    (omega (arith, c.loop-test.false, c.loop.auto.counter-end))

pub loop-init : goal.loop-init
loop-init c = c.new-table.ensures.items

pub loop-preserved : goal.loop-preserved
loop-preserved c =
    c.in-Ok.ensures.items ∙ ap (λ (l : List (Option BatchEnd)). l ++ None ∷ []) c.loop.invariant
    ∙ sym (replicate_next c.loop.counter None)
