use Rattle.table_text.proofs.Lines.{gives_at_end}
use Rattle.table_text.proofs.records.next_from.Goals as goal

pub returns-then-at-bytes-clause-gives : goal.returns-then-at-bytes-clause-gives
returns-then-at-bytes-clause-gives c =
    gives_at_end c.args.separator c.args.bytes.now c.args.row c.args.at c.if-at-bytes.true c.clear.new.self
    c.at_end.result
    c.requires.row c.at_end.ensures.wanted c.at_end.ensures.done
