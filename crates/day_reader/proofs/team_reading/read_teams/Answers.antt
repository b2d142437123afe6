use Rattle.std.proofs.Common.{Bool, ◌∙◌, ap}
use Rattle.std.proofs.lemmas.Result.{err_from_is_err_and}
use Rattle.input_text.proofs.Reading.{behind_trans}
use Rattle.day_reader.specs.Reads.{next_team}
use Rattle.day_reader.proofs.Steps.{leads_fail}
use Rattle.day_reader.proofs.team_reading.read_teams.Goals as goal

pub returns-in_err-more-clause-reads : goal.returns-in_err-more-clause-reads
returns-in_err-more-clause-reads c =
    let p = err_from_is_err_and c.from_residual.result c.from_residual.ensures.1 in
    let begun =
    c.loop-more.invariant.same
    ∙ ap (λ (b : Bool). next_team c.args.candidates c.loop-more.teams b c.loop-more.tokens.rest)
    c.loop-more-test.true in
    rw (p.1, p.2) (leads_fail _ _ begun _ _ _ _ c.in_err-more.ensures.reads)

pub loop-more-preserved : goal.loop-more-preserved
loop-more-preserved c = record {
  same =
      c.loop-more.invariant.same ∙ ap (λ (b : Bool). next_team c.args.candidates c.loop-more.teams b c.loop-more.tokens.rest)
      c.loop-more-test.true ∙ c.in_ok-more.ensures.reads;
  behind = behind_trans c.loop-more.invariant.behind c.in_ok-more.ensures.behind;
}

pub returns-clause-reads : goal.returns-clause-reads
returns-clause-reads c =
    c.loop-more.invariant.same ∙ ap (λ (b : Bool). next_team c.args.candidates c.loop-more.teams b c.loop-more.tokens.rest)
    c.loop-more-test.false

pub returns-in_err-more-clause-behind : goal.returns-in_err-more-clause-behind
returns-in_err-more-clause-behind c = behind_trans c.loop-more.invariant.behind c.in_err-more.ensures.behind

pub returns-clause-behind : goal.returns-clause-behind
returns-clause-behind c = c.loop-more.invariant.behind
