use Rattle.std.proofs.Common.{◌≡◌, ◌&&◌, ◌↔◌, List, All, get_or, subst, sym, take}
use Rattle.std.specs.Bool.{IsTrue}
use Rattle.std.proofs.lemmas.List.{take_all, take_more}
use Rattle.ballot_table.specs.declared.column.Column.{Column}
use Rattle.ballot_table.specs.declared.column.Column.TheVariants.{Weight}
use Rattle.ballot_table.specs.Finding.{candidates_at}
use Rattle.ballot_table.proofs.PlacedLemmas.{each_more}
use Rattle.ballot_table.proofs.columns.are_candidates.Goals as goal

abbrev IsCandidates : Column → Type 0
IsCandidates column = candidates_at column ≡ 1

pub loop-column-preserved : goal.loop-column-preserved
loop-column-preserved c =
    let columns = c.args.columns.now in
    let at = c.loop-column.column-index in
    let is = c.is_candidate-are_candidates.result in
    subst (λ (cs : List Column). IsTrue (c.loop-column.are_candidates && is) ↔ All IsCandidates cs)
    (sym (take_more columns at Weight c.loop-column-test.true))
    (each_more IsCandidates (take at columns) (get_or columns at Weight) Weight c.loop-column.are_candidates is
    c.loop-column.invariant c.is_candidate-are_candidates.ensures)

pub returns : goal.returns
returns c =
    subst (λ (cs : List Column). IsTrue c.loop-column.are_candidates ↔ All IsCandidates cs)
    (take_all c.loop-column.column-index c.args.columns.now c.loop-column-test.false) c.loop-column.invariant
