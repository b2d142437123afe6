use Rattle.std.proofs.Common.{map, refl, sym, ap, subst, Err}
use Rattle.std.specs.String.{string_bytes}
use Rattle.meek_words.specs.declared.words_stop.WordsStop.{WordsStop}
use Rattle.tool_edge.specs.Streams.{reading, writing}
use Rattle.tool_edge.specs.Tool.{IsRun}
use Rattle.tool_edge.proofs.Running.{refused_words, stopped_at_source, worked_with}
use Rattle.meek_cli.specs.declared.outcome.Outcome.{Outcome}
use Rattle.meek_cli.specs.Owed.{meek}
use Rattle.meek_cli.proofs.Sound.{sound_by, none_asked, nothing_read}
use Rattle.meek_cli.proofs.run.meek.Goals as goal

-- words that ask for nothing
pub returns-in-Err : goal.returns-in-Err
returns-in-Err g c =
    let sound = sound_by c.contests_are_not_refused.ensures c.contests_are_refused_once.ensures c.accepts_days.ensures
    c.refuses_by_the_rule.ensures c.words_have_one_command.ensures in
    let words = map string_bytes c.args.words.now in
    let source = reading g.S.Source.left g.S.Source.faults c.args.source.now c.args.source.now in
    let sink = writing g.K.Sink.written g.K.Sink.faults c.args.sink.now c.refuse_words.new.sink in
    let none = none_asked words c.in-Err.stop (λ same. c.in-Err.ensures.none (ap (λ (stop : WordsStop). Err stop) same)) in
    subst (λ (o : Outcome). IsRun meek words source sink o.status o.history) (sym c.without_calls.ensures)
    (refused_words meek words c.in-Err.stop c.refuse_words.result source sink sound none
    (nothing_read g.S.Source.left g.S.Source.faults c.args.source.now) c.refuse_words.ensures)

-- a whole input, or a trial
pub returns-in-Ok-read : goal.returns-in-Ok-read
returns-in-Ok-read g c =
    let sound = sound_by c.contests_are_not_refused.ensures c.contests_are_refused_once.ensures c.accepts_days.ensures
    c.refuses_by_the_rule.ensures c.words_have_one_command.ensures in
    worked_with meek g.K.Sink.written g.K.Sink.faults c.args.sink.now c.read.new.sink c.finish.new.sink
    (map string_bytes c.args.words.now)
    c.in-Ok.asked.0 c.in-Ok-read.input.items _ c.finish.result.status c.finish.result.history
    (reading g.S.Source.left g.S.Source.faults c.args.source.now c.read.new.source) sound c.in-Ok.ensures.asked
    c.in-Ok-read.ensures.input c.in-Ok-read.ensures.untouched refl c.finish.ensures

-- a source that was not read to its end
pub returns : goal.returns
returns g c =
    let sound = sound_by c.contests_are_not_refused.ensures c.contests_are_refused_once.ensures c.accepts_days.ensures
    c.refuses_by_the_rule.ensures c.words_have_one_command.ensures in
    let words = map string_bytes c.args.words.now in
    let source = reading g.S.Source.left g.S.Source.faults c.args.source.now c.read.new.source in
    let sink = writing g.K.Sink.written g.K.Sink.faults c.args.sink.now c.read.new.sink in
    subst (λ (o : Outcome). IsRun meek words source sink o.status o.history) (sym c.without_calls-in-Err-read.ensures)
    (stopped_at_source meek words c.in-Ok.asked.0 c.in-Err-read.status source sink sound c.in-Ok.ensures.asked
    c.in-Err-read.ensures.stopped)
