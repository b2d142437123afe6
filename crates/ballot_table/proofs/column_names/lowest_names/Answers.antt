use Rattle.std.proofs.Common.{◌≡◌, ◌∙◌, ℕ, List, sym, ap, map, arith}
use Rattle.std.specs.List.{range_with_len}
use Rattle.ballot_table.specs.ColumnNames.{lowest}
use Rattle.ballot_table.proofs.ColumnNameLemmas.{name_more}
use Rattle.ballot_table.proofs.column_names.lowest_names.Goals as goal

pub loop-column-preserved : goal.loop-column-preserved
loop-column-preserved c =
    let name = c.in_ok-new.ensures ∙ c.lowest.ensures in
    c.in_ok-push.ensures.ok
    ∙ name_more (lowest c.args.records.now) 0 c.loop-column.column c.loop-column.names _ c.loop-column.invariant
    (name ∙ ap (lowest c.args.records.now) (omega arith))
