use Rattle.std.proofs.Common.{ap, refl, ◌∙◌}
use Rattle.meek_rule.specs.Row.{Row}
use Rattle.day_sheets.proofs.CountingOut.{counting_more, counted_out, finished}
use Rattle.day_sheets.proofs.counted_out.count_out.Goals as goal

pub rows-preserved : goal.rows-preserved
rows-preserved g c =
    let round = ap (λ (r : Row). r.round) (c.behind-count.view_is ∙ c.row.ensures.value) in
    counting_more 9 c.args.count.now c.rows.count c.next.new.self c.rows.turns _ c.rows.invariant
    (c.in-Iterated.ensures.leads refl) (c.in-Iterated.ensures.nearer refl) round refl

pub returns : goal.returns
returns g c =
    let done = finished c.next.result c.in_default.not-Iterated in
    counted_out 9 c.args.count.now c.rows.count c.rows.turns c.next.new.self.situation.states c.rows.invariant
    (c.next.ensures.at_end.0 done) (c.next.ensures.last done)
