use Rattle.std.proofs.Common.{◌≡◌, true, ap, subst, Ok, Err}
use Rattle.std.proofs.lemmas.Result.{err_from_is_err_and}
use Rattle.input_text.specs.Token.{Scan}
use Rattle.input_text.specs.Reader.{Reader}
use Rattle.input_text.specs.Scan.{scan}
use Rattle.day_reader.specs.Said.{said_by}
use Rattle.day_reader.specs.Reads.{SaysDay}
use Rattle.day_reader.proofs.DaySteps.{says_all, says_trailing, says_front}
use Rattle.day_reader.proofs.days.read_file.Goals as goal

pub returns-in_err-day : goal.returns-in_err-day
returns-in_err-day c =
    let p = err_from_is_err_and c.from_residual.result c.from_residual.ensures.1 in
    let text : c.new-tokens.result.rest ≡ scan c.args.bytes.now true = ap (λ (r : Reader). r.rest) c.new-tokens.ensures in
    rw (p.1, p.2) (subst (λ (s : Scan). SaysDay (said_by s) (Err c.in_err-day.field-0.0)) text
    (says_front _ _ c.in_err-day.field-0.0 c.in_err-day.ensures.reads))

pub returns-in_err-read_nothing : goal.returns-in_err-read_nothing
returns-in_err-read_nothing c =
    let p = err_from_is_err_and c.from_residual-in_err-read_nothing.result c.from_residual-in_err-read_nothing.ensures.1 in
    let text : c.new-tokens.result.rest ≡ scan c.args.bytes.now true = ap (λ (r : Reader). r.rest) c.new-tokens.ensures in
    rw (p.1, p.2, ← text) (says_trailing _ _ c.in_ok-day.day _ c.in_ok-day.ensures.reads c.in_err-read_nothing.ensures)

pub returns : goal.returns
returns c =
    let text : c.new-tokens.result.rest ≡ scan c.args.bytes.now true = ap (λ (r : Reader). r.rest) c.new-tokens.ensures in
    subst (λ (s : Scan). SaysDay (said_by s) (Ok c.in_ok-day.day)) text
    (says_all _ _ c.in_ok-day.day c.in_ok-day.ensures.reads c.in_ok-read_nothing.ensures)
