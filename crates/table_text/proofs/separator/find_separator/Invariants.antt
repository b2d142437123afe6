use Rattle.std.proofs.Common.{◌≡◌, drop}
use Rattle.table_text.specs.Separator.{parting, one_kind, separator_of}
use Rattle.table_text.proofs.separator.find_separator.Given as goal

abbrev pub invariant-loop-at : goal.invariant-loop-at
invariant-loop-at l =
    one_kind l.kind l.count (parting l.is_quoted l.at (drop l.at l.bytes)) ≡ separator_of l.bytes
