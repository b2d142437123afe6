use Rattle.std.proofs.Common.{◌≡◌, ◌++◌, false, drop}
use Rattle.table_text.specs.Reading.{unquoted}
use Rattle.table_text.proofs.text.put_unquoted.Given as goal

abbrev pub invariant-loop-b : goal.invariant-loop-b
invariant-loop-b l =
    l.into.items ++ unquoted l.is_behind_quote (drop l.b-index l.bytes)
    ≡ l.fn.into.items ++ unquoted false l.bytes
