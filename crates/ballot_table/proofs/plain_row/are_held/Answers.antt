use Rattle.std.proofs.Common.{◌&&◌, ◌↔◌, ◌==◌, List, ℕ, All, not, get_or, subst, sym, take}
use Rattle.std.specs.Bool.{IsTrue}
use Rattle.std.proofs.lemmas.List.{take_all, take_more}
use Rattle.ballot_table.proofs.PlacedLemmas.{IsHeld, each_more, some_held}
use Rattle.ballot_table.proofs.plain_row.are_held.Goals as goal

pub loop-c-preserved : goal.loop-c-preserved
loop-c-preserved c =
    let ranks = c.args.ranks.now in
    let at = c.loop-c.c-index in
    let rank = get_or ranks at 0 in
    subst (λ (rs : List ℕ). IsTrue (c.loop-c.are_held && not (rank == 0)) ↔ All IsHeld rs)
    (sym (take_more ranks at 0 c.loop-c-test.true))
    (each_more IsHeld (take at ranks) rank 0 c.loop-c.are_held (not (rank == 0)) c.loop-c.invariant (some_held rank))

pub returns : goal.returns
returns c =
    subst (λ (rs : List ℕ). IsTrue c.loop-c.are_held ↔ All IsHeld rs)
    (take_all c.loop-c.c-index c.args.ranks.now c.loop-c-test.false) c.loop-c.invariant
