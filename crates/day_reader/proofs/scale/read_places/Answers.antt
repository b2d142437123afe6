use Rattle.std.proofs.Common.{refl, ◌∙◌, ap}
use Rattle.std.proofs.lemmas.Result.{err_from_is_err_and}
use Rattle.input_text.proofs.Reading.{behind_trans}
use Rattle.day_reader.specs.Day.{Scale}
use Rattle.day_reader.specs.DayTable.{behind_places}
use Rattle.day_reader.proofs.States.{stops_at, read_at, out_of_place, is_word}
use Rattle.day_reader.proofs.HeadSteps.{at_places, behind_the_places, at_omega, Scaled, behind_the_omega, no_omega}
use Rattle.day_reader.proofs.HeadSteps.{head_leads, head_fails}
use Rattle.day_reader.proofs.scale.read_places.Goals as goal

pub returns-in_err-places-clause-reads : goal.returns-in_err-places-clause-reads
returns-in_err-places-clause-reads c =
    let p = err_from_is_err_and c.from_residual.result c.from_residual.ensures.1 in
    rw (p.1, p.2) (λ roll lots. stops_at (at_places roll lots) c.in_err-places.ensures.fault)

pub returns-in_err-keyword-clause-reads : goal.returns-in_err-keyword-clause-reads
returns-in_err-keyword-clause-reads c =
    let places = c.in_ok-places.places in
    let p = err_from_is_err_and c.from_residual-in_err-keyword.result c.from_residual-in_err-keyword.ensures.1 in
    rw (p.1, p.2) (λ roll lots. read_at (at_places roll lots) c.in_ok-places.ensures.number refl
    ∙ stops_at (behind_the_places roll lots places) c.in_err-keyword.ensures.fault)

pub returns-in_default-clause-reads : goal.returns-in_default-clause-reads
returns-in_default-clause-reads c =
    let places = c.in_ok-places.places in
    let keyword = c.in_ok-keyword.keyword in
    λ roll lots. rw c.new.ensures
    (read_at (at_places roll lots) c.in_ok-places.ensures.number refl
    ∙ out_of_place (behind_the_places roll lots places) (is_word keyword c.in_ok-keyword.ensures.keyword)
    (no_omega roll lots places keyword c.in_default.not-Omega))

pub returns-in_err-omega-clause-reads : goal.returns-in_err-omega-clause-reads
returns-in_err-omega-clause-reads c =
    let places = c.in_ok-places.places in
    let keyword = c.in_ok-keyword.keyword in
    let p = err_from_is_err_and c.from_residual-in_err-omega.result c.from_residual-in_err-omega.ensures.1 in
    rw (p.1, p.2) (λ roll lots. read_at (at_places roll lots) c.in_ok-places.ensures.number refl
    ∙ read_at (behind_the_places roll lots places) (is_word keyword c.in_ok-keyword.ensures.keyword)
    (ap (behind_places roll lots places) c.in-Omega.is)
    ∙ stops_at (at_omega roll lots places) c.in_err-omega.ensures.fault)

pub returns-in_err-keyword-2-clause-reads : goal.returns-in_err-keyword-2-clause-reads
returns-in_err-keyword-2-clause-reads c =
    let places = c.in_ok-places.places in
    let scale : Scale = record { places = places; omega = c.in_ok-omega.omega } in
    let keyword = c.in_ok-keyword.keyword in
    let p = err_from_is_err_and c.from_residual-in_err-keyword-2.result c.from_residual-in_err-keyword-2.ensures.1 in
    rw (p.1, p.2) (λ roll lots. read_at (at_places roll lots) c.in_ok-places.ensures.number refl
    ∙ read_at (behind_the_places roll lots places) (is_word keyword c.in_ok-keyword.ensures.keyword)
    (ap (behind_places roll lots places) c.in-Omega.is)
    ∙ read_at (at_omega roll lots places) c.in_ok-omega.ensures.number refl
    ∙ stops_at (behind_the_omega roll lots scale) c.in_err-keyword-2.ensures.fault)

pub returns-in_err-begins_team-clause-reads : goal.returns-in_err-begins_team-clause-reads
returns-in_err-begins_team-clause-reads c =
    let places = c.in_ok-places.places in
    let scale : Scale = record { places = places; omega = c.in_ok-omega.omega } in
    let keyword = c.in_ok-keyword.keyword in
    let last = c.in_ok-keyword-2.keyword in
    let p = err_from_is_err_and c.from_residual-in_err-begins_team.result c.from_residual-in_err-begins_team.ensures.1 in
    rw (p.1, p.2) (λ roll lots. read_at (at_places roll lots) c.in_ok-places.ensures.number refl
    ∙ read_at (behind_the_places roll lots places) (is_word keyword c.in_ok-keyword.ensures.keyword)
    (ap (behind_places roll lots places) c.in-Omega.is)
    ∙ read_at (at_omega roll lots places) c.in_ok-omega.ensures.number refl
    ∙ head_fails (Scaled roll lots scale) (behind_the_omega roll lots scale) last _
    (is_word last c.in_ok-keyword-2.ensures.keyword) refl c.in_err-begins_team.ensures)

pub returns-clause-reads : goal.returns-clause-reads
returns-clause-reads c =
    let places = c.in_ok-places.places in
    let scale : Scale = record { places = places; omega = c.in_ok-omega.omega } in
    let keyword = c.in_ok-keyword.keyword in
    let last = c.in_ok-keyword-2.keyword in
    record {
      same = λ roll lots. read_at (at_places roll lots) c.in_ok-places.ensures.number refl
          ∙ read_at (behind_the_places roll lots places) (is_word keyword c.in_ok-keyword.ensures.keyword)
          (ap (behind_places roll lots places) c.in-Omega.is)
          ∙ read_at (at_omega roll lots places) c.in_ok-omega.ensures.number refl
          ∙ head_leads (Scaled roll lots scale) (behind_the_omega roll lots scale) last c.in_ok-begins_team.field-0
          (is_word last c.in_ok-keyword-2.ensures.keyword) refl c.in_ok-begins_team.ensures;
    }

pub returns-in_err-places-clause-behind : goal.returns-in_err-places-clause-behind
returns-in_err-places-clause-behind c = c.in_err-places.ensures.behind

pub returns-in_err-keyword-clause-behind : goal.returns-in_err-keyword-clause-behind
returns-in_err-keyword-clause-behind c = behind_trans c.in_ok-places.ensures.behind c.in_err-keyword.ensures.behind

pub returns-in_default-clause-behind : goal.returns-in_default-clause-behind
returns-in_default-clause-behind c = behind_trans c.in_ok-places.ensures.behind c.in_ok-keyword.ensures.behind

pub returns-in_err-omega-clause-behind : goal.returns-in_err-omega-clause-behind
returns-in_err-omega-clause-behind c =
    behind_trans c.in_ok-places.ensures.behind
    (behind_trans c.in_ok-keyword.ensures.behind c.in_err-omega.ensures.behind)

pub returns-in_err-keyword-2-clause-behind : goal.returns-in_err-keyword-2-clause-behind
returns-in_err-keyword-2-clause-behind c =
    behind_trans c.in_ok-places.ensures.behind
    (behind_trans c.in_ok-keyword.ensures.behind
    (behind_trans c.in_ok-omega.ensures.behind c.in_err-keyword-2.ensures.behind))

pub returns-in_err-begins_team-clause-behind : goal.returns-in_err-begins_team-clause-behind
returns-in_err-begins_team-clause-behind c =
    behind_trans c.in_ok-places.ensures.behind
    (behind_trans c.in_ok-keyword.ensures.behind
    (behind_trans c.in_ok-omega.ensures.behind c.in_ok-keyword-2.ensures.behind))

pub returns-clause-behind : goal.returns-clause-behind
returns-clause-behind c =
    behind_trans c.in_ok-places.ensures.behind
    (behind_trans c.in_ok-keyword.ensures.behind
    (behind_trans c.in_ok-omega.ensures.behind c.in_ok-keyword-2.ensures.behind))
