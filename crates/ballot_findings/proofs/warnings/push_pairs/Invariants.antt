use Rattle.std.proofs.Common.{◌≡◌, length}
use Rattle.std.specs.List.{flat_map, range_with_len}
use Rattle.ballot_findings.specs.Counted.{counted, with_lines}
use Rattle.ballot_findings.specs.Doubts.{are_like, like_words}
use Rattle.ballot_findings.specs.Lines.{later_pairs, pair_line}
use Rattle.ballot_findings.proofs.warnings.push_pairs.Given as goal

abbrev pub invariant-loop-p : goal.invariant-loop-p
invariant-loop-p l =
    counted l.text l.count
    ≡ with_lines (λ two. pair_line l.fn.file.input (like_words l.likeness) two.0 two.1) (counted l.initial.text 0)
    (flat_map (later_pairs (length l.fn.file.roll.names) (are_like l.likeness l.fn.file.roll.names)) (range_with_len 1 l.p))
