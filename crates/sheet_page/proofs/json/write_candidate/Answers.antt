use Rattle.std.proofs.Common.{refl, sym, ap, ◌≡◌, ◌∙◌, ◌+◌, ℕ, List, [], ◌∷◌}
use Rattle.std.specs.Prelude.{codes, decimal}
use Rattle.std.proofs.lemmas.Option.{get_or_from_slice_get}
use Rattle.candidate_roll.specs.State.{state_at}
use Rattle.sheet_text.specs.Lines.{state_word}
use Rattle.sheet_reader.specs.Values.{SheetList}
use Rattle.sheet_page.specs.Json.{comma_at, candidate_json, joined}
use Rattle.sheet_page.specs.JsonText.{string_text}
use Rattle.sheet_page.specs.Values.{name_at}
use Rattle.sheet_page.proofs.Pens.{renamed}
use Rattle.sheet_page.proofs.json.write_candidate.Goals as goal

-- the candidate, part by part
candidate_is :
    (v : SheetList) (p : ℕ) (comma name outcome : List ℕ) → comma ≡ comma_at p → name ≡ name_at v p
    → outcome ≡ state_word (state_at v.last p)
    → joined (comma ∷ codes "{\"number\":" ∷ decimal (p + 1) ∷ codes ",\"name\":" ∷ string_text name ∷ codes ",\"outcome\":"
    ∷ string_text outcome ∷ codes "}" ∷ []) ≡ candidate_json v p
candidate_is v p comma name outcome is_comma is_name is_outcome = rw (is_comma, is_name, is_outcome) refl

pub returns : goal.returns
returns g c =
    let u = c.values.inside in
    let v : SheetList =
    record {
      title = u.title;
      seats = u.seats;
      ballots = u.ballots;
      names = u.names;
      rows = u.rows;
      last = u.last;
    } in
    let p = c.args.p in
    let name = c.bytes-name.ensures.value ∙ sym (get_or_from_slice_get v.names p c.get.result.now [] c.get.ensures) in
    let outcome = c.state_word-outcome.ensures ∙ ap state_word c.get-2.ensures.state in
    renamed (candidate_is v p _ _ _ c.comma_at.ensures name outcome
    ∙ ap (λ (w : SheetList). candidate_json w p) c.values.view_is)
    c.write.ensures
