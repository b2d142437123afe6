use Rattle.std.proofs.Common.{ℕ, ◌+◌, ◌<◌, ◌≤◌, length, sym, ◌∙◌, ap, arith}
use Rattle.std.proofs.lemmas.List.{length_push}
use Rattle.std.proofs.lemmas.Result.{err_from_is_err_and}
use Rattle.input_text.specs.Token.{Scan}
use Rattle.input_text.specs.Judged.{reads}
use Rattle.input_text.proofs.Reading.{behind_trans}
use Rattle.day_reader.specs.declared.script.Script.{Script}
use Rattle.day_reader.specs.Call.{is_freeze, freezes}
use Rattle.day_reader.specs.TeamTable.{InTeam, and_team, at_teams}
use Rattle.day_reader.proofs.Steps.{fewer_left, leads_fail}
use Rattle.day_reader.proofs.TeamLists.{one_if, freezes_call}
use Rattle.day_reader.proofs.TeamSteps.{team_stops, next_team_word, team_too_many, end_word}
use Rattle.day_reader.proofs.team_reading.read_calls.Goals as goal

pub returns-in_err-keyword-clause-reads : goal.returns-in_err-keyword-clause-reads
returns-in_err-keyword-clause-reads c =
    let p = err_from_is_err_and c.from_residual.result c.from_residual.ensures.1 in
    rw (p.1, p.2) (c.loop-keyword.invariant.same
    ∙ team_stops c.args.candidates c.args.before.now c.loop-keyword.script _ _ _
    c.in_err-keyword.ensures.fault)

pub returns-then-len-clause-reads : goal.returns-then-len-clause-reads
returns-then-len-clause-reads c =
    let many : 16 ≤ length (and_team c.args.before.now c.loop-keyword.script) =
    omega (arith, c.len.ensures, c.if-len.true, length_push c.args.before.now c.loop-keyword.script) in
    rw c.refused.ensures
    (c.loop-keyword.invariant.same ∙ team_too_many c.args.candidates c.args.before.now c.loop-keyword.script
    _ _ c.in_ok-keyword.keyword c.in_ok-keyword.at c.in_ok-keyword.ensures.keyword c.in-Team.is many)

pub returns-in-Team-clause-reads : goal.returns-in-Team-clause-reads
returns-in-Team-clause-reads c =
    let few : length (and_team c.args.before.now c.loop-keyword.script) < 16 =
    omega (arith, c.len.ensures, c.if-len.false, length_push c.args.before.now c.loop-keyword.script) in
    c.loop-keyword.invariant.same ∙ next_team_word c.args.candidates c.args.before.now c.loop-keyword.script
    _ _ c.in_ok-keyword.keyword c.in_ok-keyword.at c.in_ok-keyword.ensures.keyword c.in-Team.is few

pub returns-in-End-clause-reads : goal.returns-in-End-clause-reads
returns-in-End-clause-reads c =
    c.loop-keyword.invariant.same
    ∙ end_word c.args.candidates c.args.before.now c.loop-keyword.script _ _ c.in_ok-keyword.keyword
    c.in_ok-keyword.at c.in_ok-keyword.ensures.keyword c.in-End.is

pub returns-in_err-add_call-clause-reads : goal.returns-in_err-add_call-clause-reads
returns-in_err-add_call-clause-reads c =
    let p = err_from_is_err_and c.from_residual-in_err-add_call.result c.from_residual-in_err-add_call.ensures.1 in
    rw (p.1, p.2, c.in_err-add_call.ensures.only_memory) tt

pub loop-keyword-preserved : goal.loop-keyword-preserved
loop-keyword-preserved c =
    let before = c.loop-keyword.invariant in
    let teams = c.args.before.now in
    let script = c.loop-keyword.script in
    let call = c.in_ok-call.call in
    let table = at_teams c.args.candidates in
    record {
      same = before.same
          ∙ ap (λ (s : Scan). reads table (InTeam teams script) s) c.in_ok-keyword.ensures.keyword
          ∙ c.in_ok-call.ensures.reads teams script (sym before.counted)
          ∙ ap (λ (s : Script). reads table (InTeam teams s) c.read_call.new.tokens.rest)
          (sym c.in_ok-add_call.ensures.added);
      counted =
          c.in_ok-call.ensures.counted ∙ ap (λ (n : ℕ). n + one_if (is_freeze call)) before.counted
          ∙ sym (freezes_call teams script call) ∙ ap (λ (s : Script). freezes (and_team teams s))
          (sym c.in_ok-add_call.ensures.added);
      team = c.in_ok-add_call.ensures.team ∙ before.team;
      behind = behind_trans before.behind (behind_trans c.in_ok-keyword.ensures.behind c.in_ok-call.ensures.behind);
    }

pub returns-in_err-keyword-clause-behind : goal.returns-in_err-keyword-clause-behind
returns-in_err-keyword-clause-behind c = behind_trans c.loop-keyword.invariant.behind c.in_err-keyword.ensures.behind

pub returns-then-len-clause-behind : goal.returns-then-len-clause-behind
returns-then-len-clause-behind c = behind_trans c.loop-keyword.invariant.behind c.in_ok-keyword.ensures.behind

pub returns-in-Team-clause-behind : goal.returns-in-Team-clause-behind
returns-in-Team-clause-behind c = behind_trans c.loop-keyword.invariant.behind c.in_ok-keyword.ensures.behind

pub returns-in-End-clause-behind : goal.returns-in-End-clause-behind
returns-in-End-clause-behind c = behind_trans c.loop-keyword.invariant.behind c.in_ok-keyword.ensures.behind

pub returns-in_err-call-clause-behind : goal.returns-in_err-call-clause-behind
returns-in_err-call-clause-behind c =
    behind_trans c.loop-keyword.invariant.behind
    (behind_trans c.in_ok-keyword.ensures.behind c.in_err-call.ensures.behind)

pub returns-in_err-add_call-clause-behind : goal.returns-in_err-add_call-clause-behind
returns-in_err-add_call-clause-behind c =
    behind_trans c.loop-keyword.invariant.behind
    (behind_trans c.in_ok-keyword.ensures.behind c.in_ok-call.ensures.behind)

pub loop-keyword-smaller : goal.loop-keyword-smaller
loop-keyword-smaller c =
    fewer_left c.loop-keyword.tokens c.next_keyword.new.tokens c.read_call.new.tokens _ c.in_ok-keyword.ensures.keyword
    c.in_ok-call.ensures.behind

pub returns-in_err-call-clause-reads : goal.returns-in_err-call-clause-reads
returns-in_err-call-clause-reads c =
    let p = err_from_is_err_and c.from_residual-in_err-call.result c.from_residual-in_err-call.ensures.1 in
    let before = c.loop-keyword.invariant in
    let begun =
    before.same ∙ ap (λ (s : Scan). reads (at_teams c.args.candidates) (InTeam c.args.before.now c.loop-keyword.script) s)
    c.in_ok-keyword.ensures.keyword in
    rw (p.1, p.2) (leads_fail _ _ begun _ _ _ _
    (c.in_err-call.ensures.reads c.args.before.now c.loop-keyword.script (sym before.counted)))
