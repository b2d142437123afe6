use Rattle.std.proofs.Common.{length}
use Rattle.preflib_text.specs.Heading.{IsHeadTo}
use Rattle.preflib_text.proofs.head.Head.read.Given as goal

-- the metadata so far have no fault, and what they say is kept
abbrev pub invariant-loop-line : goal.invariant-loop-line
invariant-loop-line l = record { so_far : IsHeadTo l.asked l.fn.lines l.head l.lines }

abbrev pub decreases-loop-line : goal.decreases-loop-line
decreases-loop-line l = length l.lines.rest
