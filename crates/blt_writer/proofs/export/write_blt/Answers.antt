use Rattle.std.proofs.Common.{ℕ, ◌≤◌, List, ap, sym, subst, arith, length, Ok, Err}
use Rattle.byte_edge.specs.declared.failed.Failed.{Failed}
use Rattle.plain_ballots.specs.declared.ballot_line.BallotLine.{BallotLine}
use Rattle.blt_writer.specs.Exported.{Exported}
use Rattle.blt_writer.specs.Merge.{all_plain, AreInOrder}
use Rattle.blt_writer.specs.Merged.{WritesLines}
use Rattle.blt_writer.specs.Written.{WritesText}
use Rattle.blt_writer.proofs.ExportLemmas.{opening_stopped, lines_stopped, closed, written_back}
use Rattle.blt_writer.proofs.export.write_blt.Goals as goal

pub returns-in_err-write_opening : goal.returns-in_err-write_opening
returns-in_err-write_opening g c =
    subst (λ (e : Exported). WritesText g.K.Sink.written g.K.Sink.faults c.args.sink.now
    c.write_opening.new.sink e c.from_residual.result) c.export.view_is
    (opening_stopped _ _ c.from_residual.ensures.0 c.in_err-write_opening.ensures)

pub invariant_of-export : goal.invariant_of-export
invariant_of-export g c =
    let back =
    written_back c.write_merged.new.cursors c.export.inside.cursors.items c.export.inside.cursors.len
    (omega arith) in (
      subst AreInOrder (sym back) c.write_merged.ensures.order,
      subst (λ (l : List (List BallotLine)). length (all_plain l) ≤ 999999999) (sym back) c.write_merged.ensures.few,
    )

pub returns-in_err-write_merged : goal.returns-in_err-write_merged
returns-in_err-write_merged g c =
    let ballots = ap all_plain c.as_mut_slice.ensures.value in
    subst (λ (e : Exported). WritesText g.K.Sink.written g.K.Sink.faults c.args.sink.now
    c.write_merged.new.sink e c.from_residual-in_err-write_merged.result) c.export.view_is
    (lines_stopped _ _ c.in_err-write_merged.field-0.0 c.from_residual-in_err-write_merged.ensures.0
    c.in_ok-write_opening.ensures
    (subst (λ (bag : List (List ℕ)). WritesLines {T = Unit {0}} {E = Failed} g.K.Sink.written g.K.Sink.faults
    c.write_opening.new.sink c.write_merged.new.sink bag (Err c.in_err-write_merged.field-0.0)) ballots
    c.in_err-write_merged.ensures.lines))

pub invariant_of-export-2 : goal.invariant_of-export-2
invariant_of-export-2 g c =
    let back =
    written_back c.write_merged.new.cursors c.export.inside.cursors.items c.export.inside.cursors.len
    (omega arith) in (
      subst AreInOrder (sym back) c.write_merged.ensures.order,
      subst (λ (l : List (List BallotLine)). length (all_plain l) ≤ 999999999) (sym back) c.write_merged.ensures.few,
    )

pub returns : goal.returns
returns g c =
    let ballots = ap all_plain c.as_mut_slice.ensures.value in
    subst (λ (e : Exported). WritesText g.K.Sink.written g.K.Sink.faults c.args.sink.now
    c.write_closing.new.sink e c.write_closing.result) c.export.view_is
    (closed _ _ c.in_ok-write_merged.field-0 c.in_ok-write_opening.ensures
    (subst (λ (bag : List (List ℕ)). WritesLines {T = Unit {0}} {E = Failed} g.K.Sink.written g.K.Sink.faults
    c.write_opening.new.sink c.write_merged.new.sink bag (Ok c.in_ok-write_merged.field-0)) ballots
    c.in_ok-write_merged.ensures.lines)
    c.write_closing.ensures)
