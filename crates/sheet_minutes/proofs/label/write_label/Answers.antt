use Rattle.std.proofs.Common.{◌≡◌, ◌∙◌, ap, sym, subst, ℕ, ◌+◌, List, [], ◌∷◌, ◌++◌, decimal}
use Rattle.std.specs.Prelude.{Some, slice_get}
use Rattle.std.specs.Str.{encode_utf8_all}
use Rattle.std.proofs.lemmas.Option.{get_or_from_slice_get}
use Rattle.sheet_reader.specs.Values.{SheetList}
use Rattle.sheet_minutes.specs.declared.columns.TheConstants.{NUMBER_COLUMNS}
use Rattle.sheet_minutes.specs.declared.entry.Entry.{Entry}
use Rattle.sheet_minutes.specs.Columns.{at_right, name_columns}
use Rattle.sheet_minutes.specs.Table.{label}
use Rattle.sheet_minutes.proofs.Growing.{renamed}
use Rattle.sheet_minutes.proofs.label.write_label.Goals as goal

pub returns-in-Round : goal.returns-in-Round
returns-in-Round g c = renamed _ _ _ _ _ _ _ (ap (λ (e : Entry). label c.args.values.now e) (sym c.in-Round.is)) c.write_bytes.ensures

pub returns-in-Quota : goal.returns-in-Quota
returns-in-Quota g c = renamed _ _ _ _ _ _ _ (ap (λ (e : Entry). label c.args.values.now e) (sym c.in-Quota.is)) c.write_bytes-in-Quota.ensures

pub returns-in-LeftOver : goal.returns-in-LeftOver
returns-in-LeftOver g c = renamed _ _ _ _ _ _ _ (ap (λ (e : Entry). label c.args.values.now e) (sym c.in-LeftOver.is)) c.write_bytes-in-LeftOver.ensures

pub returns-in-Candidate : goal.returns-in-Candidate
returns-in-Candidate g c =
    let v = c.args.values.now in
    let p = c.in-Candidate.p in
    let got = subst (λ (w : SheetList). slice_get w.names p ≡ Some c.get.result.now) c.values.view_is c.get.ensures in
    let name = c.bytes.ensures.value ∙ sym (get_or_from_slice_get v.names p c.get.result.now [] got) in
    renamed _ _ _ _ _ _ _ (ap (λ (l : List ℕ). at_right NUMBER_COLUMNS (decimal (p + 1)) ++ 32 ∷ encode_utf8_all (name_columns l)) name
    ∙ ap (λ (e : Entry). label v e) (sym c.in-Candidate.is)) c.write_numbered.ensures
