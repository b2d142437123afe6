use Rattle.std.proofs.Common.{All, length}
use Rattle.blt_writer.specs.Packed.{IsEntry, entry_lines}
use Rattle.blt_writer.proofs.ListingLemmas.{IsListing}
use Rattle.blt_writer.proofs.runs.write_runs.Given as goal

abbrev pub invariant-loop-rest : goal.invariant-loop-rest
invariant-loop-rest g l = record {
  sound : All (IsEntry l.ranks) l.rest;
  so_far : IsListing g.K.Sink.written g.K.Sink.faults l.fn.sink l.sink l.page (entry_lines l.ranks l.entries)
      (entry_lines l.ranks l.rest);
}

abbrev pub decreases-loop-rest : goal.decreases-loop-rest
decreases-loop-rest g l = length l.rest
