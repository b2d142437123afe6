use Rattle.std.proofs.Common.{◌≤◌, length, arith}
use Rattle.std.specs.Prelude.{decimal}
use Rattle.std.proofs.lemmas.Grind.{common_steps}
use Rattle.line_text.proofs.Lengths.{length-count}
use Rattle.blt_import.proofs.import_fault.word_line.Goals as goal

pub push_count-requires : goal.push_count-requires
push_count-requires c =
    let few_place : length (decimal c.args.place) ≤ 20 = length-count c.args.place (omega arith) in
    grind (arith, common_steps)

pub push_bytes-requires-4 : goal.push_bytes-requires-4
push_bytes-requires-4 c =
    let few_place : length (decimal c.args.place) ≤ 20 = length-count c.args.place (omega arith) in
    grind (arith, common_steps)
