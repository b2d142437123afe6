use Rattle.sheet_reader.proofs.Decisions.{nobody_marked, list_read, list_empty}
use Rattle.sheet_reader.proofs.LineParts.{with_line}
use Rattle.sheet_reader.proofs.WordLines.{empty_list, some_list}
use Rattle.sheet_reader.proofs.decision.read_marks.Goals as goal

pub returns-in_default-clause-sound : goal.returns-in_default-clause-sound
returns-in_default-clause-sound c t = nobody_marked c.args.word.now _ _ _ _ c.fill.ensures c.in_default.ensures.0

pub returns-then-is_empty-clause-whole : goal.returns-then-is_empty-clause-whole
returns-then-is_empty-clause-whole c others rest long other is =
    list_empty c.args.word.now _ others _ _ rest other c.in-Some.ensures is
    (empty_list _ _ c.is_empty.ensures c.if-is_empty.true)

pub returns-clause-sound : goal.returns-clause-sound
returns-clause-sound c t =
    list_read c.args.word.now _ c.read_list.new.marks _ _ c.in-Some.ensures
    (some_list _ _ c.is_empty.ensures c.if-is_empty.false) (c.read_list.ensures.sound t)

pub returns-clause-whole : goal.returns-clause-whole
returns-clause-whole c others rest long other is =
    let w = with_line c.args.word.now _ others _ _ rest other c.in-Some.ensures is in
    ((c.read_list.ensures.whole others long w.0).0, w.2)
