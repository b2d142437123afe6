use Rattle.std.proofs.Common.{◌≤◌, length, arith}
use Rattle.std.specs.Prelude.{decimal}
use Rattle.std.proofs.lemmas.Grind.{common_steps}
use Rattle.line_text.proofs.Lengths.{length-count}
use Rattle.tool_edge.proofs.refusal.fault_line.Goals as goal

pub push_count-requires : goal.push_count-requires
push_count-requires c =
    let few : length (decimal c.args.fault.at) ≤ 20 = length-count c.args.fault.at (omega arith) in
    grind (arith, common_steps)

pub push_bytes-requires-4 : goal.push_bytes-requires-4
push_bytes-requires-4 c =
    let few : length (decimal c.args.fault.at) ≤ 20 = length-count c.args.fault.at (omega arith) in
    grind (arith, common_steps)
