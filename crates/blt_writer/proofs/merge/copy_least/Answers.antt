use Rattle.std.proofs.Common.{sym, subst, ℕ, List}
use Rattle.blt_writer.specs.Merge.{IsLeast}
use Rattle.blt_writer.proofs.LeastLemmas.{least_is, none_is}
use Rattle.blt_writer.proofs.merge.copy_least.Goals as goal

pub returns-in-Some-clause-least : goal.returns-in-Some-clause-least
returns-in-Some-clause-least c =
    λ found.
    subst (λ (r : List ℕ). IsLeast r c.args.cursors.now) (sym c.copy.ensures)
    (least_is c.args.cursors.now c.first_ahead.result c.index-cursors-first_ahead.result c.in-Some.least.now
    c.first_ahead.ensures.inside
    c.index-cursors-first_ahead.is c.in-Some.ensures.head c.first_ahead.ensures.first)

pub returns-in-None-clause-none : goal.returns-in-None-clause-none
returns-in-None-clause-none c =
    λ nothing.
    none_is c.args.cursors.now c.first_ahead.result c.index-cursors-first_ahead.result
    c.index-cursors-first_ahead.is c.in-None.ensures.none
    c.first_ahead.ensures.first
