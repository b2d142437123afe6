use Rattle.std.proofs.Common.{refl}
use Rattle.std.specs.Prelude.{None}
use Rattle.std.proofs.lemmas.Result.{err_from_is_err_and}
use Rattle.day_reader.proofs.States.{stops_at, is_word}
use Rattle.day_reader.proofs.HeadSteps.{behind_the_lots, not_places, head_leads, head_fails, reads_scale_part}
use Rattle.day_reader.proofs.scale.read_scale.Goals as goal

pub returns-in_err-keyword-clause-reads : goal.returns-in_err-keyword-clause-reads
returns-in_err-keyword-clause-reads c =
    let p = err_from_is_err_and c.from_residual.result c.from_residual.ensures.1 in
    rw (p.1, p.2) (λ roll lots. stops_at (behind_the_lots roll lots) c.in_err-keyword.ensures.fault)

pub returns-in-Places-clause-reads : goal.returns-in-Places-clause-reads
returns-in-Places-clause-reads c =
    reads_scale_part _ _ _ c.in_ok-keyword.keyword c.in_ok-keyword.at c.in_ok-keyword.ensures.keyword c.in-Places.is
    c.read_places.result c.read_places.ensures.reads

pub returns-in_err-begins_team-in_default-clause-reads : goal.returns-in_err-begins_team-in_default-clause-reads
returns-in_err-begins_team-in_default-clause-reads c =
    let keyword = c.in_ok-keyword.keyword in
    let p =
    err_from_is_err_and c.from_residual-in_err-begins_team-in_default.result
    c.from_residual-in_err-begins_team-in_default.ensures.1 in
    rw (p.1, p.2) (λ roll lots. head_fails (record { roll = roll; lots = lots; scale = None })
    (behind_the_lots roll lots) keyword _ (is_word keyword c.in_ok-keyword.ensures.keyword)
    (not_places roll lots keyword c.in_default.not-Places) c.in_err-begins_team-in_default.ensures)

pub returns-in_ok-begins_team-in_default-clause-reads : goal.returns-in_ok-begins_team-in_default-clause-reads
returns-in_ok-begins_team-in_default-clause-reads c =
    let keyword = c.in_ok-keyword.keyword in
    record {
      scale = None;
      places = refl;
      omega = c.usual.ensures;
      same =
          λ roll lots. head_leads (record { roll = roll; lots = lots; scale = None })
          (behind_the_lots roll lots) keyword c.in_ok-begins_team-in_default.field-0
          (is_word keyword c.in_ok-keyword.ensures.keyword)
          (not_places roll lots keyword c.in_default.not-Places) c.in_ok-begins_team-in_default.ensures;
    }
