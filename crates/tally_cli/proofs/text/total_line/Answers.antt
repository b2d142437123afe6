use Rattle.std.proofs.Common.{◌≤◌, length, arith}
use Rattle.std.specs.Prelude.{decimal}
use Rattle.std.proofs.lemmas.Grind.{common_steps}
use Rattle.line_text.proofs.Lengths.{length-count}
use Rattle.tally_cli.proofs.text.total_line.Goals as goal

pub push_count-requires : goal.push_count-requires
push_count-requires c =
    let few : length (decimal c.args.candidate) ≤ 20 = length-count c.args.candidate (omega arith) in
    grind (arith, common_steps)

pub push_bytes-requires : goal.push_bytes-requires
push_bytes-requires c =
    let few : length (decimal c.args.candidate) ≤ 20 = length-count c.args.candidate (omega arith) in
    grind (arith, common_steps)

pub push_count-requires-2 : goal.push_count-requires-2
push_count-requires-2 c =
    let few : length (decimal c.args.candidate) ≤ 20 = length-count c.args.candidate (omega arith) in
    let few_ballots : length (decimal c.args.ballots) ≤ 20 = length-count c.args.ballots (omega arith) in
    grind (arith, common_steps)

pub push_bytes-requires-2 : goal.push_bytes-requires-2
push_bytes-requires-2 c =
    let few : length (decimal c.args.candidate) ≤ 20 = length-count c.args.candidate (omega arith) in
    let few_ballots : length (decimal c.args.ballots) ≤ 20 = length-count c.args.ballots (omega arith) in
    grind (arith, common_steps)
