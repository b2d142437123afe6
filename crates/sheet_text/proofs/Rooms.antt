-- Room for the parts of a line.
use Rattle.std.proofs.Common.{length-append}
use Rattle.line_text.proofs.Lengths.{length-count, length-candidate, length-text_of, scale-most}

pub ruleset rooms = (length-count, length-candidate, length-text_of, scale-most, length-append)
