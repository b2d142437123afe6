use Rattle.std.proofs.Common.{◌≡◌, ◌+◌}
use Rattle.std.specs.List.{filter, range_with_len}
use Rattle.ballot_findings.specs.Counted.{counted, with_lines}
use Rattle.ballot_findings.specs.Doubts.{are_like, like_words}
use Rattle.ballot_findings.specs.Lines.{pair_line}
use Rattle.ballot_findings.proofs.warnings.push_pairs_of.Given as goal

abbrev pub invariant-loop-p : goal.invariant-loop-p
invariant-loop-p l =
    counted l.text l.count
    ≡ with_lines (pair_line l.fn.file.input (like_words l.likeness) l.c) (counted l.initial.text l.initial.count)
    (filter (are_like l.likeness l.fn.file.roll.names l.c) (range_with_len (l.c + 1) l.p))
