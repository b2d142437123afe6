use Rattle.table_text.proofs.Lines.{line_ends_text, line_ends_feed, line_ends_return}
use Rattle.std.proofs.Common.{◌<◌, length, arith}
use Rattle.table_text.proofs.records.behind_line.Goals as goal

pub returns-then-end-bytes-clause-over : goal.returns-then-end-bytes-clause-over
returns-then-end-bytes-clause-over c =
    line_ends_text c.args.separator c.args.bytes.now c.args.end c.if-end-bytes.true

pub returns-then-bytes-end-eq-FEED-clause-over : goal.returns-then-bytes-end-eq-FEED-clause-over
returns-then-bytes-end-eq-FEED-clause-over c =
    let inside : c.args.end < length c.args.bytes.now = omega arith in
    line_ends_feed c.args.separator c.args.bytes.now c.args.end inside c.requires.ended
    c.if-bytes-end-eq-FEED.true

pub returns-else-bytes-end-eq-FEED-clause-over : goal.returns-else-bytes-end-eq-FEED-clause-over
returns-else-bytes-end-eq-FEED-clause-over c =
    let inside : c.args.end < length c.args.bytes.now = omega arith in
    line_ends_return c.args.separator c.args.bytes.now c.args.end inside c.requires.ended
    c.if-bytes-end-eq-FEED.false
