use Rattle.std.proofs.Common.{◌∙◌}
use Rattle.std.proofs.lemmas.Result.{err_from_is_err_and}
use Rattle.blt_reader.proofs.OpeningSteps.{candidates_stop, candidates_read, seats_stop, seats_read, Opens}
use Rattle.blt_reader.proofs.OpeningSteps.{opened, opening_fails}
use Rattle.input_text.proofs.Reading.{behind_trans}
use Rattle.blt_reader.proofs.opening.read_opening.Goals as goal

pub returns-in_err-candidates-clause-reads : goal.returns-in_err-candidates-clause-reads
returns-in_err-candidates-clause-reads c =
    let p = err_from_is_err_and c.from_residual.result c.from_residual.ensures.1 in
    rw (p.1, p.2) (λ limit. candidates_stop limit _ _ _ c.in_err-candidates.ensures.fault)

pub returns-in_err-seats-clause-reads : goal.returns-in_err-seats-clause-reads
returns-in_err-seats-clause-reads c =
    let p = err_from_is_err_and c.from_residual-in_err-seats.result c.from_residual-in_err-seats.ensures.1 in
    rw (p.1, p.2) (λ limit. candidates_read limit _ _ c.in_ok-candidates.candidates c.in_ok-candidates.ensures.size
    ∙ seats_stop limit _ _ c.in_ok-candidates.candidates _ c.in_err-seats.ensures.fault)

pub returns-in_err-first-clause-reads : goal.returns-in_err-first-clause-reads
returns-in_err-first-clause-reads c =
    let candidates = c.in_ok-candidates.candidates in
    let opens : Opens candidates c.in_ok-seats.seats c.args.tokens.now.rest c.read_size-2.new.tokens.rest =
    λ limit. candidates_read limit _ _ candidates c.in_ok-candidates.ensures.size
    ∙ seats_read limit _ _ candidates c.in_ok-seats.seats c.in_ok-seats.ensures.size in
    let p = err_from_is_err_and c.from_residual-in_err-first.result c.from_residual-in_err-first.ensures.1 in
    rw (p.1, p.2) (opening_fails candidates c.in_ok-seats.seats _ _ _ c.read_withdrawn.new.withdrawn.items _
    opens c.in_err-first.ensures.reads)

pub returns-clause-reads : goal.returns-clause-reads
returns-clause-reads c =
    let candidates = c.in_ok-candidates.candidates in
    let opens : Opens candidates c.in_ok-seats.seats c.args.tokens.now.rest c.read_size-2.new.tokens.rest =
    λ limit. candidates_read limit _ _ candidates c.in_ok-candidates.ensures.size
    ∙ seats_read limit _ _ candidates c.in_ok-seats.seats c.in_ok-seats.ensures.size in
    opened _ _ _ _ opens c.in_ok-first.ensures.reads

pub returns-in_err-seats-clause-behind : goal.returns-in_err-seats-clause-behind
returns-in_err-seats-clause-behind c = behind_trans c.in_ok-candidates.ensures.behind c.in_err-seats.ensures.behind

pub returns-in_err-first-clause-behind : goal.returns-in_err-first-clause-behind
returns-in_err-first-clause-behind c =
    behind_trans c.in_ok-candidates.ensures.behind
    (behind_trans c.in_ok-seats.ensures.behind c.in_err-first.ensures.behind)

pub returns-clause-behind : goal.returns-clause-behind
returns-clause-behind c =
    behind_trans c.in_ok-candidates.ensures.behind
    (behind_trans c.in_ok-seats.ensures.behind c.in_ok-first.ensures.behind)
