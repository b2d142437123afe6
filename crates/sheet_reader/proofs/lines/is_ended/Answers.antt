use Rattle.std.proofs.Common.{refl}
use Rattle.sheet_reader.proofs.LineLists.{last_feed}
use Rattle.sheet_reader.proofs.WordLines.{some_list}
use Rattle.sheet_reader.proofs.lines.is_ended.Goals as goal

pub returns : goal.returns
returns c = last_feed c.args.text.now _ (some_list c.args.text.now _ c.is_empty.ensures c.if-is_empty.false) refl
