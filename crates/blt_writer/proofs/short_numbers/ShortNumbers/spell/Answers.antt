use Rattle.std.proofs.Common.{ℕ, ◌+◌, ◌-◌, ◌*◌, List, length, set, sym, subst, arith}
use borrow.Rule.Slice.PartMut.{put_mid}
use Rattle.blt_writer.specs.ShortTexts.{AreTextsBelow}
use Rattle.blt_writer.proofs.ShortTextLemmas.{spelled_more}
use Rattle.blt_writer.proofs.short_numbers.ShortNumbers.spell.Goals as goal

pub returns : goal.returns
returns c =
    let n = c.args.n in
    let text = c.text_of-text.result.now in
    let from = 4 * n in
    subst (λ (t : List ℕ). AreTextsBelow (n + 1)
    (set (put_mid from (from + length text - from) c.args.self.now.texts t) (from + length text) 32)
    (set c.args.self.now.lens n (length text + 1)))
    (sym c.copy_from_slice.ensures.after)
    (spelled_more c.args.self.now.texts c.args.self.now.lens text n (from + length text - from)
    c.requires.next c.requires.so_far
    c.text_of-text.ensures.text c.text_of-text.ensures.short (omega arith))
