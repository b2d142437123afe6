use Rattle.std.proofs.Common.{◌<◌, ◌+◌, take, arith}
use Rattle.ballot_table.specs.Texts.{value}
use Rattle.ballot_table.proofs.NumberLemmas.{value_more, greater_so_far}
use Rattle.ballot_table.proofs.numeral.value_up_to.Goals as goal

pub returns-then-value-most : goal.returns-then-value-most
returns-then-value-most c =
    let digits = c.args.digits.now in
    let i = c.loop-digit.digit-index in
    let more = value_more digits i c.loop-digit-test.true in
    let much : c.args.most < value (take (i + 1) digits) = omega (arith, more) in
    greater_so_far c.args.most digits (i + 1) much
