use Rattle.blt_writer.proofs.MergeLemmas.{line_count}
use Rattle.blt_writer.proofs.MergingLemmas.{IsMerging}
use Rattle.blt_writer.proofs.merge.write_merged.Given as goal

abbrev pub invariant-loop-count : goal.invariant-loop-count
invariant-loop-count g l = IsMerging g.K.Sink.written g.K.Sink.faults l.fn.sink l.sink l.fn.cursors l.cursors

abbrev pub decreases-loop-count : goal.decreases-loop-count
decreases-loop-count g l = line_count l.cursors
