use Rattle.std.proofs.Common.{◌≤◌, length, arith}
use Rattle.std.specs.Prelude.{decimal}
use Rattle.std.proofs.lemmas.Grind.{common_steps}
use Rattle.line_text.proofs.Lengths.{length-count}
use Rattle.blt_import.proofs.report.push_number.Goals as goal

pub push_count-requires : goal.push_count-requires
push_count-requires c =
    let few : length (decimal c.args.number) ≤ 20 = length-count c.args.number (omega arith) in
    grind (arith, common_steps)

pub push_bytes-requires-3 : goal.push_bytes-requires-3
push_bytes-requires-3 c =
    let few : length (decimal c.args.number) ≤ 20 = length-count c.args.number (omega arith) in
    grind (arith, common_steps)

pub returns-clause-short : goal.returns-clause-short
returns-clause-short c =
    let few : length (decimal c.args.number) ≤ 20 = length-count c.args.number (omega arith) in
    grind (arith, common_steps)
