use Rattle.std.proofs.Common.{◌+◌, ◌-◌, drop, arith}
use Rattle.std.proofs.lemmas.List.{take_rest}
use Rattle.std.proofs.lemmas.Grind.{common_steps}
use Rattle.input_text.specs.Scan.{is_in_string}
use Rattle.input_text.proofs.Runs.{inner_passes}
use Rattle.input_text.proofs.pieces.string_piece.Goals as goal

pub returns-then-may_follow-clause-text : goal.returns-then-may_follow-clause-text
returns-then-may_follow-clause-text c =
    let n = c.string_len-n.result in
    let bytes = c.args.bytes.now in (
      omega arith,
      grind (arith, common_steps),
      inner_passes is_in_string _ (drop 1 bytes) n (n + 2 - 1 - 1)
          (take_rest bytes 1) c.string_len-n.ensures.is (omega arith),
    )
