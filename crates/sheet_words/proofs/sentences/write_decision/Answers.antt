use Rattle.std.proofs.Common.{◌≡◌, ◌∙◌, ap, sym, subst, ℕ, List, ◌++◌, append_assoc}
use Rattle.piece_text.specs.Writing.{Writes}
use Rattle.piece_text.proofs.Written.{later, stops}
use Rattle.sheet_reader.specs.Values.{SheetList}
use Rattle.meek_rule.specs.Row.{Row}
use Rattle.sheet_words.specs.declared.decision.Decision.{Decision}
use Rattle.sheet_words.specs.Lines.{numbered, numbers}
use Rattle.sheet_words.specs.Manner.{Manner, said, told}
use Rattle.sheet_words.specs.Sentences.{sentence}
use Rattle.sheet_words.proofs.Written.{said-append}
use Rattle.sheet_words.proofs.sentences.write_decision.Goals as goal

-- a sentence, part by part
parts :
    (places : ℕ) (m : Manner) (v : SheetList) (row : Row) (d : Decision)
    → m.opening ++ (said m (numbers row) ++ (said m (sentence places v row d) ++ m.closing)) ≡ told m (numbered places v row d)
parts places m v row d =
    ap (λ (l : List ℕ). m.opening ++ l)
    (sym (append_assoc (said m (numbers row)) (said m (sentence places v row d)) m.closing)
    ∙ ap (λ (l : List ℕ). l ++ m.closing) (sym (said-append m (numbers row) (sentence places v row d))))

pub returns-in_err-begin : goal.returns-in_err-begin
returns-in_err-begin g c =
    subst (λ (l : List ℕ). Writes g.K.Sink.written g.K.Sink.faults c.args.sink.now c.begin.new.sink l c.from_residual.result)
    (parts g.row.P g.V.Voice.manner c.args.values.now c.args.row.now c.args.decision)
    (stops _ _ c.from_residual.ensures.0 c.in_err-begin.ensures)

pub returns-in_err-say_numbers : goal.returns-in_err-say_numbers
returns-in_err-say_numbers g c =
    subst (λ (l : List ℕ). Writes g.K.Sink.written g.K.Sink.faults c.args.sink.now c.say_numbers.new.sink l
    c.from_residual-in_err-say_numbers.result)
    (parts g.row.P g.V.Voice.manner c.args.values.now c.args.row.now c.args.decision)
    (later _ _ _ c.in_ok-begin.ensures
    (stops _ _ c.from_residual-in_err-say_numbers.ensures.0 c.in_err-say_numbers.ensures))

pub returns-in_err-say_decision : goal.returns-in_err-say_decision
returns-in_err-say_decision g c =
    subst (λ (l : List ℕ). Writes g.K.Sink.written g.K.Sink.faults c.args.sink.now c.say_decision.new.sink l
    c.from_residual-in_err-say_decision.result)
    (parts g.row.P g.V.Voice.manner c.args.values.now c.args.row.now c.args.decision)
    (later _ _ _ c.in_ok-begin.ensures (later _ _ _ c.in_ok-say_numbers.ensures
    (stops _ _ c.from_residual-in_err-say_decision.ensures.0 c.in_err-say_decision.ensures)))

pub returns : goal.returns
returns g c =
    subst (λ (l : List ℕ). Writes g.K.Sink.written g.K.Sink.faults c.args.sink.now c.end.new.sink l c.end.result)
    (parts g.row.P g.V.Voice.manner c.args.values.now c.args.row.now c.args.decision)
    (later _ _ _ c.in_ok-begin.ensures (later _ _ _ c.in_ok-say_numbers.ensures
    (later _ _ _ c.in_ok-say_decision.ensures c.end.ensures)))
