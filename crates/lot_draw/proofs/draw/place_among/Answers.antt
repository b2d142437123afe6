use Rattle.std.proofs.Common.{◌∙◌, ap, ℕ, ◌%◌, List}
use Rattle.lot_draw.specs.Draw.{big_endian, drawn_place}
use Rattle.lot_draw.proofs.draw.place_among.Goals as goal

pub returns-clause-place : goal.returns-clause-place
unfolding drawn_place
returns-clause-place c =
    c.remainder.ensures.value ∙ ap (λ (digest : List ℕ). big_endian digest % c.args.candidates) c.digest_of.ensures
