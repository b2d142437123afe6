use Rattle.std.specs.Slice.Iter.{iter_rest}
use Rattle.std.specs.Vec.Iter.{into_iter_items}
use Rattle.std.specs.Iterator.Adapters.{zip_first, zip_second}
use Rattle.day_sheets.specs.DueSheets.{sheets_at}
use Rattle.day_sheets.proofs.DueTexts.{IsWriting}
use Rattle.day_sheets.proofs.day_text.write_sheets.Given as goal

abbrev pub invariant-loop-at : goal.invariant-loop-at
invariant-loop-at g l =
    (goal.iterator-loop-at g).can_next l.at-iterator
    × (goal.iterator-loop-at g).is_finite l.at-iterator
    × IsWriting g.K.Sink.written g.K.Sink.faults l.initial.sink l.sink g.row.P (sheets_at l.fn.places l.fn.counts.items)
    (sheets_at (iter_rest (zip_first l.at-iterator)) (into_iter_items (zip_second l.at-iterator)))
