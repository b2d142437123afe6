-- The key that a `Mark` stands for.
use Rattle.std.specs.Prelude.{ℕ}
use Rattle.tally_board.specs.declared.mark.Mark.{Mark, Of, Same'}

abbrev pub key_of : Mark → ℕ
key_of (Of pen) = pen.value.nib.key
key_of (Same' shape before) = key_of before
