use Rattle.std.proofs.Common.{length}
use Rattle.sheet_reader.proofs.LineLemmas.{IsReadUpTo}
use Rattle.sheet_reader.proofs.list.read_list.Given as goal

abbrev pub invariant-loop-p : goal.invariant-loop-p
invariant-loop-p l = record { so_far : IsReadUpTo (length l.fn.marks) l.text l.p l.marks l.rest }
