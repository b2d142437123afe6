use Rattle.std.proofs.Common.{List, [], sym, subst}
use Rattle.std.proofs.lemmas.Result.{err_from_is_err_and}
use Rattle.plain_ballots.specs.Ballots.{BallotList}
use Rattle.plain_ballots.specs.declared.ballot_line.BallotLine.{BallotLine}
use Rattle.input_text.specs.Token.{Scan}
use Rattle.input_text.specs.Reads.{Reads}
use Rattle.blt_reader.specs.BallotTable.{Limit, Between, at_line}
use Rattle.blt_reader.proofs.LineSteps.{count_stops}
use Rattle.blt_reader.proofs.HeldLines.{held_itself, lines_itself}
use Rattle.input_text.proofs.Reading.{behind_trans}
use Rattle.blt_reader.proofs.lines.read_lines.Goals as goal

pub returns-in_err-first-clause-reads : goal.returns-in_err-first-clause-reads
returns-in_err-first-clause-reads c =
    let limit : Limit = record { most = c.args.most; refusal = c.args.refusal } in
    let p = err_from_is_err_and c.from_residual.result c.from_residual.ensures.1 in
    rw (p.1, p.2) (count_stops c.args.candidates limit [] _ _ _ c.in_err-first.ensures.fault)

pub returns-clause-reads : goal.returns-clause-reads
returns-clause-reads c =
    let limit : Limit = record { most = c.args.most; refusal = c.args.refusal } in
    subst
    (λ (s : Scan). Reads (at_line c.args.candidates limit) (Between []) (λ (b : BallotList). b.lines) s
    c.read_lines_from.result c.read_lines_from.new.tokens.rest) (sym c.in_ok-first.ensures.number)
    (held_itself (at_line c.args.candidates limit) (Between []) _ _ (λ (b : BallotList). b.lines)
    (λ (b : BallotList) (lines : List BallotLine). lines) c.read_lines_from.result c.read_lines_from.ensures.reads)

pub returns-clause-lines : goal.returns-clause-lines
returns-clause-lines c =
    lines_itself (λ (b : BallotList). b.lines) c.args.candidates c.args.most c.read_lines_from.result
    c.read_lines_from.ensures.lines

pub returns-clause-behind : goal.returns-clause-behind
returns-clause-behind c = behind_trans c.in_ok-first.ensures.behind c.read_lines_from.ensures.behind
