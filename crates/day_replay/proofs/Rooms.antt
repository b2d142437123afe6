-- Room for the parts of a line.
use Rattle.std.proofs.Common.{length-append}
use Rattle.line_text.proofs.Lengths.{length-count, length-candidate}

pub ruleset rooms = (length-count, length-candidate, length-append)
