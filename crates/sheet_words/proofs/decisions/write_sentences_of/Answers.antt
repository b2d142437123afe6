use Rattle.std.proofs.Common.{◌≡◌, ◌∙◌, ap, sym, subst, ℕ, List, ◌++◌, map}
use Rattle.std.specs.List.{flat_map}
use Rattle.meek_rule.specs.Row.{Row}
use Rattle.piece_text.specs.Writing.{Writes}
use Rattle.piece_text.proofs.Written.{later, stops}
use Rattle.sheet_reader.specs.Values.{SheetList}
use Rattle.sheet_words.specs.declared.decision.Decision.{Decision}
use Rattle.sheet_words.specs.Lines.{numbered, sentences_of}
use Rattle.sheet_words.specs.Manner.{Manner, told}
use Rattle.sheet_words.specs.Sentences.{elections, caps, defeats_of}
use Rattle.sheet_words.proofs.Written.{mapped-append}
use Rattle.sheet_words.proofs.decisions.write_sentences_of.Goals as goal

-- the sentences of some decisions
abbrev told_of : (places : ℕ) → Manner → SheetList → Row → List Decision → List ℕ
told_of places m v row decisions = flat_map (told m) (map (numbered places v row) decisions)

-- the sentences of an iteration, part by part
parts :
    (places : ℕ) (m : Manner) (v : SheetList) (row : Row)
    → told_of places m v row (elections row) ++ (told_of places m v row (caps row) ++ told_of places m v row (defeats_of row row.step))
    ≡ flat_map (told m) (sentences_of places v row)
parts places m v row =
    ap (λ (l : List ℕ). told_of places m v row (elections row) ++ l)
    (sym (mapped-append (told m) (numbered places v row) (caps row) (defeats_of row row.step)))
    ∙ sym (mapped-append (told m) (numbered places v row) (elections row) (caps row ++ defeats_of row row.step))

pub returns-in_err-write_elections : goal.returns-in_err-write_elections
returns-in_err-write_elections g c =
    subst (λ (l : List ℕ). Writes g.K.Sink.written g.K.Sink.faults c.args.sink.now c.write_elections.new.sink
    l c.from_residual.result)
    (parts g.row.P g.V.Voice.manner c.args.values.now c.args.row.now)
    (stops _ _ c.from_residual.ensures.0 c.in_err-write_elections.ensures)

pub returns-in_err-write_caps : goal.returns-in_err-write_caps
returns-in_err-write_caps g c =
    subst (λ (l : List ℕ). Writes g.K.Sink.written g.K.Sink.faults c.args.sink.now c.write_caps.new.sink l
    c.from_residual-in_err-write_caps.result)
    (parts g.row.P g.V.Voice.manner c.args.values.now c.args.row.now)
    (later _ _ _ c.in_ok-write_elections.ensures
    (stops _ _ c.from_residual-in_err-write_caps.ensures.0 c.in_err-write_caps.ensures))

pub returns : goal.returns
returns g c =
    subst (λ (l : List ℕ). Writes g.K.Sink.written g.K.Sink.faults c.args.sink.now c.write_defeats.new.sink l
    c.write_defeats.result)
    (parts g.row.P g.V.Voice.manner c.args.values.now c.args.row.now)
    (later _ _ _ c.in_ok-write_elections.ensures (later _ _ _ c.in_ok-write_caps.ensures c.write_defeats.ensures))
