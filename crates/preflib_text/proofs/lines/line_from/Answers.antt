use Rattle.std.proofs.Common.{◌+◌, ◌<◌, ◌∷◌, length, take, drop, ap, sym, ◌∙◌, arith}
use Rattle.std.specs.List.{position_or_len}
use Rattle.std.proofs.lemmas.List.{take_rest}
use Rattle.preflib_text.specs.Lines.{without_return}
use Rattle.preflib_text.specs.Reading.{lines_from}
use Rattle.preflib_text.proofs.LineLemmas.{is_feed, to_end, to_feed}
use Rattle.preflib_text.proofs.lines.line_from.Goals as goal

pub returns-then-stop-rest-clause-line : goal.returns-then-stop-rest-clause-line
returns-then-stop-rest-clause-line c =
    let bytes = c.args.bytes.now in
    let row = c.args.row in
    let at = c.args.at in
    let rest = take_rest bytes at in
    to_end bytes row at c.requires c.feed_or_end-stop.result
    (c.feed_or_end-stop.ensures.stop ∙ ap (position_or_len is_feed) rest) (c.if-stop-rest.true ∙ ap length rest)
    ∙ ap (λ xs. record { row = row; at = at; bytes = xs } ∷ lines_from bytes (row + 1) (length bytes)) (sym rest)

pub returns-clause-line : goal.returns-clause-line
returns-clause-line c =
    let bytes = c.args.bytes.now in
    let row = c.args.row in
    let at = c.args.at in
    let stop = c.feed_or_end-stop.result in
    let rest = take_rest bytes at in
    let long = ap length rest in
    let less : stop < length (drop at bytes) =
    omega (arith, c.feed_or_end-stop.ensures.inside, c.if-stop-rest.false, long) in
    to_feed bytes row at c.requires stop (c.feed_or_end-stop.ensures.stop ∙ ap (position_or_len is_feed) rest) less
    ∙ ap (λ xs. record { row = row; at = at; bytes = xs } ∷ lines_from bytes (row + 1) (at + stop + 1))
    (sym (c.without_return-line.ensures.line ∙ ap (λ xs. without_return (take stop xs)) rest))
