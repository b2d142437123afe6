use Rattle.std.proofs.Common.{◌≡◌, ◌≤◌, length, arith, ap, ◌∙◌, sym}
use Rattle.std.proofs.lemmas.List.{drop_all}
use Rattle.lot_order.specs.Lots.{first_marked}
use Rattle.lot_order.proofs.LotsLemmas.{first_marked-order}
use Rattle.lot_order.proofs.lots.Lots.first_of.Goals as goal

-- someone marked is in the order
pub unreachable-requires : goal.unreachable-requires
unreachable-requires c =
    let marks = c.args.tied.now in
    let items = c.deref-c-items.result.now in
    let same : length marks ≡ length c.self.inside.order.items = c.requires.lengths ∙ ap length (sym c.self.view_is) in
    let found : 1 ≤ first_marked c.self.inside.order.items marks =
    first_marked-order _ _ c.requires.marked.0 c.self.invariant same c.requires.marked.1 in
    let none : 0 ≡ first_marked items marks =
    ap (λ rest. first_marked rest marks) (sym (drop_all c.loop-c.c-index items c.loop-c-test.false))
    ∙ c.loop-c.invariant in
    let here : 0 ≡ first_marked c.self.inside.order.items marks =
    none ∙ ap (λ o. first_marked o marks) c.deref-c-items.ensures.value in
    omega arith
