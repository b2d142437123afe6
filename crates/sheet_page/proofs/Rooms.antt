-- Room for the parts of a name.
use Rattle.std.proofs.Common.{length-append}
use Rattle.line_text.proofs.Lengths.{length-count}

pub ruleset rooms = (length-count, length-append)
