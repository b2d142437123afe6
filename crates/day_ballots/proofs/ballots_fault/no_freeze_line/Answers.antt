use Rattle.std.proofs.Common.{◌≤◌, length, arith}
use Rattle.std.specs.Prelude.{decimal}
use Rattle.std.proofs.lemmas.Grind.{common_steps}
use Rattle.line_text.proofs.Lengths.{length-count}
use Rattle.day_ballots.proofs.ballots_fault.no_freeze_line.Goals as goal

pub push_count-requires : goal.push_count-requires
push_count-requires c =
    let few : length (decimal c.args.at) ≤ 20 = length-count c.args.at (omega arith) in
    grind (arith, common_steps)

pub push_bytes-requires-2 : goal.push_bytes-requires-2
push_bytes-requires-2 c =
    let few : length (decimal c.args.at) ≤ 20 = length-count c.args.at (omega arith) in
    grind (arith, common_steps)
