use Rattle.std.proofs.Common.{◌≡◌, ◌<◌, map, string_bytes, [], length, get_or, sym, ◌∙◌, ap, arith}
use Rattle.std.proofs.lemmas.List.{get_or-map, length-map}
use Rattle.file_edge.proofs.Rows.{put_here}
use Rattle.file_edge.proofs.given.part.Goals as goal

pub loop-at-preserved : goal.loop-at-preserved
loop-at-preserved c =
    let words = map string_bytes c.args.words.now in
    let inside_words : c.loop-at.at < length c.args.words.now = c.loop-at-test.true in
    let inside : c.loop-at.at < length words =
    omega (arith, c.loop-at-test.true, length-map c.args.words.now string_bytes) in
    let same : string_bytes c.in_ok-clone.field-0 ≡ get_or words c.loop-at.at [] =
    c.in_ok-clone.ensures.cases
    ∙ sym (get_or-map string_bytes c.args.words.now c.loop-at.at c.index-words-at.result [] inside_words
    ∙ ap string_bytes (sym c.index-words-at.is)) in
    put_here words c.loop-at.at (string_bytes c.in_ok-clone.field-0) c.is_file_at-is_file.result
    (map string_bytes c.loop-at.given.words.items) (map string_bytes c.loop-at.given.files.items)
    (map string_bytes c.push.new.self.words.items) (map string_bytes c.push.new.self.files.items)
    inside same c.is_file_at-is_file.ensures c.loop-at.invariant.0 c.loop-at.invariant.1 c.in_ok-push.ensures.words
    c.in_ok-push.ensures.files
