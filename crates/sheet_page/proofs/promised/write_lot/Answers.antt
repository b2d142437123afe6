use Rattle.std.proofs.Common.{◌∙◌, ◌+◌, ap, append-nil, length, sym, [], ◌∷◌}
use Rattle.std.specs.Prelude.{codes}
use Rattle.meek_rule.specs.Row.{Row}
use Rattle.page_tree.specs.Print.{printed}
use Rattle.sheet_page.specs.Promised.{chosen, lot_verb, other_at}
use Rattle.sheet_page.specs.Trees.{each, words}
use Rattle.sheet_page.specs.Values.{all_places, name_at}
use Rattle.sheet_page.proofs.Printing.{printed-each, wrapped}
use Rattle.sheet_page.proofs.Pens.{later, renamed}
use Rattle.sheet_page.proofs.promised.write_lot.Goals as goal

pub returns : goal.returns
returns g c =
    let v = c.args.values.now in
    let row = c.args.row.now in
    let p = c.args.p in
    let others = other_at v row c.args.group p in
    let places = all_places (length row.states) in
    let front = chosen (name_at v p) (p + 1) row.round row.iteration (lot_verb c.args.group) in
    let said =
    ap (λ (r : Row). printed (chosen c.name_at-name.result.now (p + 1) r.round r.iteration c.lot_verb.result.now)) c.row.view_is
    ∙ ap (λ l. printed (chosen l (p + 1) row.round row.iteration c.lot_verb.result.now)) c.name_at-name.ensures
    ∙ ap (λ l. printed (chosen (name_at v p) (p + 1) row.round row.iteration l)) c.lot_verb.ensures in
    renamed (wrapped (codes "li") [] (front ∷ each others places ∷ words (codes ".") ∷ []))
    (later c.open.ensures (later (renamed said c.write_chosen.ensures) (later (renamed (printed-each others places)
    c.write_others.ensures) (later (renamed (sym (append-nil _)) c.piece.ensures) c.close.ensures))))
