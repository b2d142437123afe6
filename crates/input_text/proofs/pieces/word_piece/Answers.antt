use Rattle.std.proofs.Common.{◌-◌, refl, arith}
use Rattle.std.specs.Char.{is_ascii_lowercase}
use Rattle.input_text.proofs.Runs.{inner_passes}
use Rattle.input_text.proofs.pieces.word_piece.Goals as goal

pub returns-then-may_follow-clause-text : goal.returns-then-may_follow-clause-text
returns-then-may_follow-clause-text c = (
  omega arith,
  c.letters_len-n.ensures.within,
  inner_passes is_ascii_lowercase c.args.bytes.now c.args.bytes.now c.letters_len-n.result
      (c.letters_len-n.result - 0) refl c.letters_len-n.ensures.is (omega arith),
)
