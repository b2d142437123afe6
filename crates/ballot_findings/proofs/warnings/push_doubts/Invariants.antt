use Rattle.std.proofs.Common.{◌≡◌}
use Rattle.std.specs.List.{filter, range_with_len}
use Rattle.ballot_findings.specs.Counted.{counted, with_lines}
use Rattle.ballot_findings.specs.Doubts.{doubt_words, is_doubtful}
use Rattle.ballot_findings.specs.Lines.{candidate_line}
use Rattle.ballot_findings.proofs.warnings.push_doubts.Given as goal

abbrev pub invariant-loop-p : goal.invariant-loop-p
invariant-loop-p l =
    counted l.text l.count
    ≡ with_lines (candidate_line l.fn.file.input (doubt_words l.doubt)) (counted l.initial.text 0)
    (filter (is_doubtful l.doubt l.fn.file.roll l.fn.tally) (range_with_len 1 l.p))
