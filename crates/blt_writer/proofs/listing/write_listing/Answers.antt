use Rattle.std.proofs.Common.{ℕ, List, ap, subst, Ok, Err}
use Rattle.byte_edge.specs.declared.failed.Failed.{Failed}
use Rattle.blt_writer.specs.Exported.{Exported}
use Rattle.blt_writer.specs.Merge.{all_plain}
use Rattle.blt_writer.specs.Merged.{WritesLines}
use Rattle.blt_writer.specs.Written.{WritesText}
use Rattle.blt_writer.proofs.ExportLemmas.{opening_stopped, lines_stopped, closed}
use Rattle.blt_writer.proofs.listing.write_listing.Goals as goal

pub returns-in_err-write_opening : goal.returns-in_err-write_opening
returns-in_err-write_opening g c =
    subst (λ (e : Exported). WritesText g.K.Sink.written g.K.Sink.faults c.args.sink.now
    c.write_opening.new.sink e c.from_residual.result) c.listing.view_is
    (opening_stopped _ _ c.from_residual.ensures.0 c.in_err-write_opening.ensures)

pub returns-in_err-write_shelves : goal.returns-in_err-write_shelves
returns-in_err-write_shelves g c =
    let ballots = ap all_plain c.as_slice.ensures.value in
    subst (λ (e : Exported). WritesText g.K.Sink.written g.K.Sink.faults c.args.sink.now
    c.write_shelves.new.sink e c.from_residual-in_err-write_shelves.result) c.listing.view_is
    (lines_stopped _ _ c.in_err-write_shelves.field-0.0 c.from_residual-in_err-write_shelves.ensures.0
    c.in_ok-write_opening.ensures
    (subst (λ (bag : List (List ℕ)). WritesLines {T = Unit {0}} {E = Failed} g.K.Sink.written g.K.Sink.faults
    c.write_opening.new.sink c.write_shelves.new.sink bag (Err c.in_err-write_shelves.field-0.0))
    ballots c.in_err-write_shelves.ensures))

pub returns : goal.returns
returns g c =
    let ballots = ap all_plain c.as_slice.ensures.value in
    subst (λ (e : Exported). WritesText g.K.Sink.written g.K.Sink.faults c.args.sink.now
    c.write_closing.new.sink e c.write_closing.result) c.listing.view_is
    (closed _ _ c.in_ok-write_shelves.field-0 c.in_ok-write_opening.ensures
    (subst (λ (bag : List (List ℕ)). WritesLines {T = Unit {0}} {E = Failed} g.K.Sink.written g.K.Sink.faults
    c.write_opening.new.sink c.write_shelves.new.sink bag (Ok c.in_ok-write_shelves.field-0)) ballots
    c.in_ok-write_shelves.ensures)
    c.write_closing.ensures)
