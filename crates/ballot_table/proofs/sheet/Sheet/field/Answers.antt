use Rattle.std.proofs.Common.{◌≡◌, ◌<◌, ℕ, List, [], length, get_or, ap, sym, ◌∙◌, subst}
use Rattle.ballot_table.specs.Sheets.{Opened, text_of}
use Rattle.ballot_table.specs.Texts.{trimmed}
use Rattle.ballot_table.proofs.SheetLemmas.{text_at}
use Rattle.ballot_table.proofs.sheet.Sheet.field.Goals as goal

pub returns-in-Ok : goal.returns-in-Ok
returns-in-Ok c =
    let bytes = c.self.inside.records.bytes in
    let cells = c.self.inside.cells in
    let texts = ap (λ (o : Opened). o.texts) c.self.view_is in
    subst (λ (ts : List (List ℕ)). text_of c.in-Ok.field ≡ get_or ts c.args.at []) texts
    (c.in-Ok.ensures
    ∙ text_at bytes cells c.items.result.now c.args.at _ c.items.ensures
    (subst (λ (ts : List (List ℕ)). c.args.at < length ts) (sym texts) c.requires))

pub returns-in-Some : goal.returns-in-Some
returns-in-Some c =
    let bytes = c.self.inside.records.bytes in
    let cells = c.self.inside.cells in
    let texts = ap (λ (o : Opened). o.texts) c.self.view_is in
    subst (λ (ts : List (List ℕ)). trimmed c.in-Some.bytes.now ≡ get_or ts c.args.at []) texts
    (ap trimmed c.in-Some.ensures.text
    ∙ text_at bytes cells c.items.result.now c.args.at _ c.items.ensures
    (subst (λ (ts : List (List ℕ)). c.args.at < length ts) (sym texts) c.requires))
