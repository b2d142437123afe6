use Rattle.std.proofs.Common.{◌≡◌, ℕ, ◌<◌, List, length, refl, ◌∙◌, ap, arith}
use Rattle.std.proofs.lemmas.Result.{err_from_is_err_and}
use Rattle.candidate_roll.specs.Roll.{withdrawn_marks}
use Rattle.blt_reader.specs.BallotTable.{Limit}
use Rattle.blt_reader.specs.declared.election.StoredElection.{StoredElection}
use Rattle.blt_reader.specs.Election.{poll_of_lines}
use Rattle.blt_reader.proofs.RollSteps.{HeadingOf, ballots_fail, ballots_read, names_stop, title_stop, all_read}
use Rattle.input_text.proofs.Reading.{behind_trans}
use Rattle.blt_reader.proofs.rolls.read_up_to_title.Goals as goal

pub returns-in_err-ballots-clause-reads : goal.returns-in_err-ballots-clause-reads
returns-in_err-ballots-clause-reads g c =
    let limit : Limit = record { most = c.args.most; refusal = c.args.refusal } in
    let p = err_from_is_err_and c.from_residual-in_err-ballots.result c.from_residual-in_err-ballots.ensures.1 in
    let lines = c.in_err-ballots.ensures.reads.0 in
    let failed =
    ballots_fail limit c.args.tokens.now.rest c.in_ok-opening.opening c.read_opening.new.tokens.rest
    c.in_ok-opening.ensures.reads (λ (b : g.row.B.Denot). lines)
    (λ (e : StoredElection g.row.B.Denot). poll_of_lines e lines) _ _
    c.in_err-ballots.ensures.reads.2 in
    rw (p.1, p.2) (lines, tt, failed)

pub returns-in_err-names-clause-reads : goal.returns-in_err-names-clause-reads
returns-in_err-names-clause-reads g c =
    let limit : Limit = record { most = c.args.most; refusal = c.args.refusal } in
    let opened = c.in_ok-opening.ensures.reads in
    let some : 0 < c.in_ok-opening.opening.candidates = omega (arith, c.in_ok-opening.ensures.sound.candidates.least) in
    let p = err_from_is_err_and c.from_residual-in_err-names.result c.from_residual-in_err-names.ensures.1 in
    let lines = c.in_ok-ballots.ensures.reads.0 in
    let failed =
    names_stop limit c.args.tokens.now.rest c.in_ok-opening.opening c.read_opening.new.tokens.rest opened
    lines (λ (e : StoredElection g.row.B.Denot). poll_of_lines e lines) _ _ _
    (ballots_read limit c.args.tokens.now.rest c.in_ok-opening.opening c.read_opening.new.tokens.rest opened
    lines _ some c.in_ok-ballots.ensures.reads.2) c.in_err-names.ensures.reads in
    rw (p.1, p.2) (lines, tt, failed)

pub returns-in_err-title-clause-reads : goal.returns-in_err-title-clause-reads
returns-in_err-title-clause-reads g c =
    let limit : Limit = record { most = c.args.most; refusal = c.args.refusal } in
    let opened = c.in_ok-opening.ensures.reads in
    let heading = HeadingOf limit c.args.tokens.now.rest c.in_ok-opening.opening c.read_opening.new.tokens.rest opened in
    let lines = c.in_ok-ballots.ensures.reads.0 in
    let some : 0 < c.in_ok-opening.opening.candidates = omega (arith, c.in_ok-opening.ensures.sound.candidates.least) in
    let p = err_from_is_err_and c.from_residual-in_err-title.result c.from_residual-in_err-title.ensures.1 in
    let failed =
    title_stop limit c.args.tokens.now.rest c.in_ok-opening.opening c.read_opening.new.tokens.rest opened lines
    c.in_ok-names.names c.in_ok-names.ensures.all (λ (e : StoredElection g.row.B.Denot). poll_of_lines e lines) _ _ _
    (ballots_read limit c.args.tokens.now.rest c.in_ok-opening.opening c.read_opening.new.tokens.rest opened lines _ some
    c.in_ok-ballots.ensures.reads.2 ∙ c.in_ok-names.ensures.reads limit heading lines refl) c.in_err-title.ensures.fault in
    rw (p.1, p.2) (lines, tt, failed)

pub returns-clause-reads : goal.returns-clause-reads
returns-clause-reads g c =
    let limit : Limit = record { most = c.args.most; refusal = c.args.refusal } in
    let opened = c.in_ok-opening.ensures.reads in
    let heading = HeadingOf limit c.args.tokens.now.rest c.in_ok-opening.opening c.read_opening.new.tokens.rest opened in
    let lines = c.in_ok-ballots.ensures.reads.0 in
    let names = c.in_ok-names.names in
    let some : 0 < c.in_ok-opening.opening.candidates = omega (arith, c.in_ok-opening.ensures.sound.candidates.least) in
    let roll_is : c.in_ok-roll.roll
    ≡ record {
      seats = c.in_ok-opening.opening.seats;
      names = names;
      title = c.in_ok-title.title;
      withdrawn = withdrawn_marks (length names) c.in_ok-opening.opening.withdrawn.items;
    } = c.in_ok-roll.ensures.roll
    ∙ ap (λ (w : List ℕ).
    record {
      seats = c.in_ok-opening.opening.seats;
      names = names;
      title = c.in_ok-title.title;
      withdrawn = withdrawn_marks (length names) w;
    }) c.as_slice-withdrawn.ensures.value in
    let read =
    all_read limit c.args.tokens.now.rest c.in_ok-opening.opening c.read_opening.new.tokens.rest opened lines names
    c.in_ok-names.ensures.all c.in_ok-title.title c.in_ok-roll.roll _ _
    (ballots_read limit c.args.tokens.now.rest c.in_ok-opening.opening c.read_opening.new.tokens.rest opened lines _ some
    c.in_ok-ballots.ensures.reads.2 ∙ c.in_ok-names.ensures.reads limit heading lines refl) c.in_ok-title.ensures.name
    roll_is in
    (lines, c.in_ok-ballots.ensures.reads.1, read)

pub returns-in_err-ballots-clause-behind : goal.returns-in_err-ballots-clause-behind
returns-in_err-ballots-clause-behind g c = behind_trans c.in_ok-opening.ensures.behind c.in_err-ballots.ensures.behind

pub returns-in_err-names-clause-behind : goal.returns-in_err-names-clause-behind
returns-in_err-names-clause-behind g c =
    behind_trans c.in_ok-opening.ensures.behind
    (behind_trans c.in_ok-ballots.ensures.behind c.in_err-names.ensures.behind)

pub returns-in_err-title-clause-behind : goal.returns-in_err-title-clause-behind
returns-in_err-title-clause-behind g c =
    behind_trans c.in_ok-opening.ensures.behind
    (behind_trans c.in_ok-ballots.ensures.behind (behind_trans c.in_ok-names.ensures.behind c.in_err-title.ensures.behind))

pub returns-in_err-roll-clause-behind : goal.returns-in_err-roll-clause-behind
returns-in_err-roll-clause-behind g c =
    behind_trans c.in_ok-opening.ensures.behind
    (behind_trans c.in_ok-ballots.ensures.behind (behind_trans c.in_ok-names.ensures.behind c.in_ok-title.ensures.behind))

pub returns-clause-behind : goal.returns-clause-behind
returns-clause-behind g c =
    behind_trans c.in_ok-opening.ensures.behind
    (behind_trans c.in_ok-ballots.ensures.behind (behind_trans c.in_ok-names.ensures.behind c.in_ok-title.ensures.behind))
