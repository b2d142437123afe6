use Rattle.std.proofs.Common.{◌≡◌, ◌∙◌, ◌++◌, ◌∷◌, [], ℕ, List, cond, sym, ap, take}
use Rattle.std.specs.List.{slice_index_or}
use Rattle.std.proofs.lemmas.List.{take_more}
use Rattle.ballot_table.specs.ColumnNames.{lowest}
use Rattle.ballot_table.specs.Rows.{is_empty}
use Rattle.ballot_table.proofs.ColumnNameLemmas.{lowest_more}
use Rattle.ballot_table.proofs.column_names.lowest.Goals as goal

pub loop-texts-preserved : goal.loop-texts-preserved
loop-texts-preserved c =
    let records = c.args.records.now in
    let column = c.args.column in
    let at = c.loop-texts.texts-index in
    let texts = c.texts-item.result in
    let text = c.text_at.ensures ∙ ap (λ (ts : List (List ℕ)). slice_index_or ts column []) c.items.ensures in
    c.lower-found.ensures
    ∙ ap (λ (t : List ℕ). cond (is_empty t) c.loop-texts.found.now t) text
    ∙ ap (λ (above : List ℕ). cond (is_empty (slice_index_or texts column [])) above (slice_index_or texts column []))
    c.loop-texts.invariant
    ∙ sym (lowest_more (take at records) texts column)
    ∙ sym (ap (λ (rs : List (List (List ℕ))). lowest rs column)
    (take_more records at texts c.loop-texts-test.true
    ∙ ap (λ (ts : List (List ℕ)). take at records ++ ts ∷ []) (sym c.texts-item.is)))
