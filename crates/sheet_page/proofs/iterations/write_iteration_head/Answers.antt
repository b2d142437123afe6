use Rattle.std.proofs.Common.{◌∙◌, ap, ℕ, List}
use Rattle.meek_rule.specs.Row.{Row}
use Rattle.page_tree.specs.Print.{printed}
use Rattle.sheet_page.specs.Iterations.{iteration_head, iteration_line}
use Rattle.sheet_page.proofs.Pens.{renamed}
use Rattle.sheet_page.proofs.iterations.write_iteration_head.Goals as goal

pub returns : goal.returns
returns g c =
    let row = c.row.inside in
    renamed (ap
    (λ (step : List ℕ). printed (iteration_line g.row.P row.iteration row.total row.quota row.surplus step))
    c.step_word-step.ensures
    ∙ ap (λ (r : Row). printed (iteration_head g.row.P r)) c.row.view_is) c.write_iteration_line.ensures
