use Rattle.std.proofs.Common.{sym, subst, ℕ, ◌≤◌, List, length}
use Rattle.std.specs.List.{flat_map}
use Rattle.piece_text.specs.Writing.{Wrote, Stopped}
use Rattle.plain_ballots.specs.declared.ballot_line.BallotLine.{BallotLine}
use Rattle.blt_writer.specs.Merge.{all_plain, written, AreInOrder}
use Rattle.blt_writer.specs.Text.{ballot_text}
use Rattle.blt_writer.proofs.MergingLemmas.{line, merging_more, merging_left, merging_stopped, merging_done, fewer_lines}
use Rattle.blt_writer.proofs.merge.write_merged.Goals as goal

pub loop-count-smaller : goal.loop-count-smaller
loop-count-smaller g c =
    fewer_lines c.take_least.new.ranking c.in-Some.count c.loop-count.cursors c.take_least.new.cursors
    c.in-Some.ensures.least

pub loop-count-preserved : goal.loop-count-preserved
loop-count-preserved g c =
    merging_more c.take_least.new.ranking c.in-Some.count c.take_least.new.cursors c.loop-count.invariant
    c.in-Some.ensures.least
    (subst (λ (r : List ℕ). Wrote g.K.Sink.written g.K.Sink.faults c.loop-count.sink c.write_ballots.new.sink
    (flat_map ballot_text (written (line c.in-Some.count r))))
    c.items.ensures c.in_ok-write_ballots.ensures)

pub returns-in_err-write_ballots-clause-lines : goal.returns-in_err-write_ballots-clause-lines
returns-in_err-write_ballots-clause-lines g c =
    merging_stopped c.take_least.new.ranking c.in-Some.count c.take_least.new.cursors _
    c.from_residual.ensures.0 c.loop-count.invariant c.in-Some.ensures.least
    (subst (λ (r : List ℕ). Stopped g.K.Sink.written g.K.Sink.faults c.loop-count.sink
    c.write_ballots.new.sink (flat_map ballot_text (written (line c.in-Some.count r))))
    c.items.ensures c.in_err-write_ballots.ensures)

pub returns-in_err-write_ballots-clause-order : goal.returns-in_err-write_ballots-clause-order
returns-in_err-write_ballots-clause-order g c =
    (merging_left c.take_least.new.ranking c.in-Some.count c.take_least.new.cursors c.loop-count.invariant
    c.in-Some.ensures.least).0

pub returns-in_err-write_ballots-clause-few : goal.returns-in_err-write_ballots-clause-few
returns-in_err-write_ballots-clause-few g c =
    (merging_left c.take_least.new.ranking c.in-Some.count c.take_least.new.cursors c.loop-count.invariant
    c.in-Some.ensures.least).1

pub returns-clause-lines : goal.returns-clause-lines
returns-clause-lines g c =
    let all = merging_done c.loop-count.invariant c.in_default.ensures.none in
    record { lines = all.0; are = all.1; writes = all.2 }

pub returns-clause-order : goal.returns-clause-order
returns-clause-order g c = subst AreInOrder (sym c.in_default.ensures.kept) c.loop-count.invariant.order

pub returns-clause-few : goal.returns-clause-few
returns-clause-few g c =
    subst (λ (l : List (List BallotLine)). length (all_plain l) ≤ 999999999) (sym c.in_default.ensures.kept)
    c.loop-count.invariant.few
