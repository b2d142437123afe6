use Rattle.std.proofs.Common.{◌≤◌, length, arith}
use Rattle.std.specs.Prelude.{decimal}
use Rattle.std.proofs.lemmas.Grind.{common_steps}
use Rattle.line_text.proofs.Lengths.{length-count}
use Rattle.blt_import.proofs.import_fault.record_line.Goals as goal

pub push_count-requires : goal.push_count-requires
push_count-requires c =
    let few_at : length (decimal c.args.at) ≤ 20 = length-count c.args.at (omega arith) in
    grind (arith, common_steps)

pub push_bytes-requires-4 : goal.push_bytes-requires-4
push_bytes-requires-4 c =
    let few_at : length (decimal c.args.at) ≤ 20 = length-count c.args.at (omega arith) in
    grind (arith, common_steps)

pub push_count-requires-2 : goal.push_count-requires-2
push_count-requires-2 c =
    let few_at : length (decimal c.args.at) ≤ 20 = length-count c.args.at (omega arith) in
    let few_row : length (decimal c.args.row) ≤ 20 = length-count c.args.row (omega arith) in
    grind (arith, common_steps)

pub push_bytes-requires-5 : goal.push_bytes-requires-5
push_bytes-requires-5 c =
    let few_at : length (decimal c.args.at) ≤ 20 = length-count c.args.at (omega arith) in
    let few_row : length (decimal c.args.row) ≤ 20 = length-count c.args.row (omega arith) in
    grind (arith, common_steps)

pub push_count-requires-3 : goal.push_count-requires-3
push_count-requires-3 c =
    let few_at : length (decimal c.args.at) ≤ 20 = length-count c.args.at (omega arith) in
    let few_row : length (decimal c.args.row) ≤ 20 = length-count c.args.row (omega arith) in
    let few_column : length (decimal c.args.column) ≤ 20 = length-count c.args.column (omega arith) in
    grind (arith, common_steps)

pub push_bytes-requires-6 : goal.push_bytes-requires-6
push_bytes-requires-6 c =
    let few_at : length (decimal c.args.at) ≤ 20 = length-count c.args.at (omega arith) in
    let few_row : length (decimal c.args.row) ≤ 20 = length-count c.args.row (omega arith) in
    let few_column : length (decimal c.args.column) ≤ 20 = length-count c.args.column (omega arith) in
    grind (arith, common_steps)
