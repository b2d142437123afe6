use Rattle.std.proofs.Common.{ℕ, ◌*◌, ◌∙◌, arith, refl}
use Rattle.blt_writer.proofs.ShortTextLemmas.{four_at, put_number}
use Rattle.blt_writer.proofs.short_numbers.ShortNumbers.put.Goals as goal

pub returns-clause-text : goal.returns-clause-text
returns-clause-text c =
    let texts = c.args.self.now.texts in
    let from : ℕ = 4 * c.args.n in
    put_number texts c.args.self.now.lens c.args.n c.args.at _ 4 c.args.bytes.now c.copy_from_slice.new.self
    c.requires.sound c.ranges.n.fits c.requires.room refl
    (c.copy_from_slice.ensures.after ∙ four_at texts from 0 (omega (arith, c.requires.sound.texts_long, c.ranges.n.fits)))
