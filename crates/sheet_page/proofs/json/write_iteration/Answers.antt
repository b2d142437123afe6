use Rattle.std.proofs.Common.{◌≡◌, ◌∙◌, ap, ℕ, List}
use Rattle.sheet_words.specs.Facts.{by_lots, last_seats}
use Rattle.sheet_page.specs.Json.{amounts_json, truth}
use Rattle.sheet_page.proofs.Pens.{later, renamed}
use Rattle.sheet_page.proofs.json.write_iteration.Goals as goal

pub returns : goal.returns
returns g c =
    let i = c.args.i in
    let row = c.args.row.now in
    let lots : c.truth-lots.result.now ≡ truth (by_lots row) = c.truth-lots.ensures ∙ ap truth c.is_by_lots.ensures in
    let last : c.from.result ≡ last_seats c.args.seats row = c.from.ensures ∙ c.last_seats-last.ensures in
    let amounts =
    ap (λ (l : List ℕ). amounts_json g.row.P i row l c.from.result) lots
    ∙ ap (λ (n : ℕ). amounts_json g.row.P i row (truth (by_lots row)) n) last in
    later (renamed amounts c.write_amounts.ensures) (later c.write_standings.ensures c.piece.ensures)
