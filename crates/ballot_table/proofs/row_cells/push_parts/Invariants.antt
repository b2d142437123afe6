use Rattle.std.proofs.Common.{map}
use Rattle.ballot_table.specs.Asked.{asked_of}
use Rattle.ballot_table.specs.Texts.{trimmed}
use Rattle.ballot_table.proofs.PartLemmas.{ArePushed}
use Rattle.ballot_table.proofs.row_cells.push_parts.Given as goal

-- the parts so far are taken in
abbrev pub invariant-loop-part : goal.invariant-loop-part
invariant-loop-part l = ArePushed (asked_of l.asked) (map (λ piece. trimmed piece.now) l.yielded) l.fn.said l.said
