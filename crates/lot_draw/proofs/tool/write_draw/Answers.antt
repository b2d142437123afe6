use Rattle.std.proofs.Common.{◌∙◌, refl, sym, ap, subst, ℕ, ◌≤◌, List, length, inl, inr}
use Rattle.tool_edge.specs.declared.end.End.TheVariants.{Done}
use Rattle.lot_order.specs.Lots.{IsOrder}
use Rattle.lot_draw.specs.DrawnLine.{drawn_line}
use Rattle.lot_draw.proofs.Owing.{nothing_written, order-numbers}
use Rattle.lot_draw.proofs.tool.write_draw.Goals as goal

pub push_drawn-requires-clause-numbers : goal.push_drawn-requires-clause-numbers
push_drawn-requires-clause-numbers g c = order-numbers _ (subst IsOrder (sym c.as_slice.ensures.value) c.in-Ok.ensures.order)

pub push_drawn-requires-clause-few : goal.push_drawn-requires-clause-few
push_drawn-requires-clause-few g c =
    subst (λ (order : List ℕ). length order ≤ 250) (sym c.as_slice.ensures.value) c.in-Ok.ensures.order.few

pub returns-in-Ok : goal.returns-in-Ok
returns-in-Ok g c =
    inr (
      Done,
      c.bytes.result.now,
      (
        tt,
        record {
          order = c.in-Ok.order.items;
          drawn = c.in-Ok.ensures.drawn;
          lots = c.in-Ok.ensures.order;
          line = c.bytes.ensures.value ∙ c.push_drawn.ensures ∙ ap drawn_line c.as_slice.ensures.value;
        },
      ),
      c.finish.ensures,
    )

pub returns-in-Err : goal.returns-in-Err
returns-in-Err g c = inl (refl, nothing_written g.K.Sink.written g.K.Sink.faults c.args.sink.now)
