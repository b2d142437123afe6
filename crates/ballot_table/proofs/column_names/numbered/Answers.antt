use Rattle.std.proofs.Common.{◌≡◌, ◌∙◌, ℕ, ◌+◌, List, sym, ap, map, arith}
use Rattle.std.specs.Prelude.{decimal}
use Rattle.ballot_table.proofs.ColumnNameLemmas.{name_more}
use Rattle.ballot_table.proofs.column_names.numbered.Goals as goal

pub loop-column-preserved : goal.loop-column-preserved
loop-column-preserved c =
    c.in_ok-push.ensures.ok
    ∙ name_more decimal 1 c.loop-column.column c.loop-column.names _ c.loop-column.invariant
    (c.in_ok-number.ensures ∙ ap decimal (omega arith))
