use Rattle.std.proofs.Common.{◌∙◌, ◌/◌, ap, arith, length, length-append}
use Rattle.std.specs.Prelude.{decimal}
use Rattle.line_text.proofs.Lengths.{length-count}
use Rattle.sheet_page.proofs.Parts.{votes_few}
use Rattle.sheet_page.proofs.cell.units_text.Goals as goal

pub overflow_cast-units-2 : goal.overflow_cast-units-2
overflow_cast-units-2 g c =
    let few = votes_few g.row.P c.args.units c.from-vote.result (c.from-vote.ensures ∙ c.scale_of.ensures.value) c.requires.bound in
    omega (arith, few)

pub push_count-requires : goal.push_count-requires
push_count-requires g c =
    let votes = c.args.units / c.from-vote.result in
    let few = votes_few g.row.P c.args.units c.from-vote.result (c.from-vote.ensures ∙ c.scale_of.ensures.value) c.requires.bound in
    omega (arith, ap length c.new-line.ensures, length-count votes (omega (arith, few)))

pub push_bytes-requires : goal.push_bytes-requires
push_bytes-requires g c =
    let votes = c.args.units / c.from-vote.result in
    let few = votes_few g.row.P c.args.units c.from-vote.result (c.from-vote.ensures ∙ c.scale_of.ensures.value) c.requires.bound in
    omega (
      arith,
      ap length c.push_count.ensures,
      length-append c.new-line.result (decimal votes),
      ap length c.new-line.ensures,
      length-count votes (omega (arith, few)),
      ap length c.bytes.ensures.value,
      c.digits_text-digits.ensures.few,
    )
