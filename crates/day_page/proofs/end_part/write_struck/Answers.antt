use Rattle.page_tree.specs.Print.{printed}
use Rattle.day_page.specs.EndPart.{struck_item}
use Rattle.sheet_page.proofs.Pens.{nothing, items_all}
use Rattle.day_page.proofs.Sheets.{value_more}
use Rattle.day_page.proofs.end_part.write_struck.Goals as goal

pub loop-candidate-init : goal.loop-candidate-init
loop-candidate-init g c = nothing _ _

pub loop-candidate-preserved : goal.loop-candidate-preserved
loop-candidate-preserved g c =
    value_more (λ n. printed (struck_item n)) c.args.struck.now c.loop-candidate.candidate-index _
    c.loop-candidate-test.true c.loop-candidate.invariant c.write_struck_one.ensures

pub returns : goal.returns
returns g c =
    items_all (λ n. printed (struck_item n)) c.args.struck.now c.loop-candidate.candidate-index
    c.loop-candidate-test.false c.loop-candidate.invariant
