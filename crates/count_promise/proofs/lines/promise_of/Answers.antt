use Rattle.std.proofs.Common.{◌≡◌, ◌∙◌, ◌++◌, ap, List, ℕ}
use Rattle.sheet_reader.specs.Values.{SheetList}
use Rattle.count_promise.specs.Lines.{further_text, lots_text}
use Rattle.count_promise.proofs.lines.promise_of.Goals as goal

pub returns : goal.returns
returns c =
    let v : SheetList = c.args.values.now in
    let rows : c.items.result.now ≡ v.rows = c.items.ensures ∙ ap (λ (w : SheetList). w.rows) c.values.view_is in
    let lots : c.push_lots.new.text ≡ lots_text v.rows =
    c.in_ok-push_lots.ensures
    ∙ (ap (λ (l : List ℕ). l ++ lots_text c.items.result.now) c.new-text.ensures ∙ ap lots_text rows) in
    c.in_ok-push_further.ensures ∙ ap (λ (l : List ℕ). l ++ further_text v) lots
