use Rattle.std.proofs.Common.{◌≡◌, ◌∙◌, ap, sym, subst, ℕ, List, ◌++◌, map}
use Rattle.std.specs.List.{flat_map}
use Rattle.std.proofs.lemmas.List.Concat.{flat_map-append}
use Rattle.piece_text.specs.Writing.{Writes}
use Rattle.piece_text.proofs.Written.{later, stops}
use Rattle.sheet_reader.specs.Values.{SheetList}
use Rattle.sheet_words.specs.Lines.{at_end, results, sentences, sentences_of}
use Rattle.sheet_words.specs.Manner.{Manner, told}
use Rattle.sheet_words.specs.Sentences.{sentences_at_end}
use Rattle.sheet_words.proofs.story.write_sentences.Goals as goal

-- the sentences of a count, part by part
parts :
    (places : ℕ) (m : Manner) (v : SheetList)
    → flat_map (told m) (flat_map (sentences_of places v) v.rows)
    ++ (flat_map (told m) (map at_end (sentences_at_end v)) ++ flat_map (told m) (results v))
    ≡ flat_map (told m) (sentences places v)
parts places m v =
    let front = flat_map (sentences_of places v) v.rows in
    let last = map at_end (sentences_at_end v) in
    ap (λ (l : List ℕ). flat_map (told m) front ++ l) (sym (flat_map-append (told m) last (results v)))
    ∙ sym (flat_map-append (told m) front (last ++ results v))

pub returns-in_err-write_iterations : goal.returns-in_err-write_iterations
returns-in_err-write_iterations g c =
    subst (λ (l : List ℕ). Writes g.K.Sink.written g.K.Sink.faults c.args.sink.now c.write_iterations.new.sink
    l c.from_residual.result)
    (parts g.row.P g.V.Voice.manner c.args.values.now) (stops _ _ c.from_residual.ensures.0 c.in_err-write_iterations.ensures)

pub returns-in_err-write_end : goal.returns-in_err-write_end
returns-in_err-write_end g c =
    subst (λ (l : List ℕ). Writes g.K.Sink.written g.K.Sink.faults c.args.sink.now c.write_end.new.sink l
    c.from_residual-in_err-write_end.result) (parts g.row.P g.V.Voice.manner c.args.values.now)
    (later _ _ _ c.in_ok-write_iterations.ensures
    (stops _ _ c.from_residual-in_err-write_end.ensures.0 c.in_err-write_end.ensures))

pub returns : goal.returns
returns g c =
    subst (λ (l : List ℕ). Writes g.K.Sink.written g.K.Sink.faults c.args.sink.now c.write_results.new.sink l
    c.write_results.result)
    (parts g.row.P g.V.Voice.manner c.args.values.now)
    (later _ _ _ c.in_ok-write_iterations.ensures (later _ _ _ c.in_ok-write_end.ensures c.write_results.ensures))
