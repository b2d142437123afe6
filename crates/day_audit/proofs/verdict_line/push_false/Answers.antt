use Rattle.std.proofs.Common.{◌≤◌, length, arith}
use Rattle.std.specs.Prelude.{decimal}
use Rattle.std.proofs.lemmas.Grind.{common_steps}
use Rattle.line_text.proofs.Lengths.{length-count}
use Rattle.day_audit.proofs.verdict_line.push_false.Goals as goal

pub push_count-requires : goal.push_count-requires
push_count-requires c =
    let few : length (decimal c.args.n) ≤ 20 = length-count c.args.n (omega arith) in
    grind (arith, common_steps)

pub push_bytes-requires-2 : goal.push_bytes-requires-2
push_bytes-requires-2 c =
    let few : length (decimal c.args.n) ≤ 20 = length-count c.args.n (omega arith) in
    grind (arith, common_steps)
