use Rattle.std.proofs.Common.{◌≡◌, sym, subst, ℕ, List, map}
use Rattle.std.specs.List.{flat_map}
use Rattle.std.proofs.lemmas.List.Folds.{flat_map-map}
use Rattle.piece_text.specs.Writing.{Writes}
use Rattle.sheet_text.specs.Lines.{ended, text_of_lines}
use Rattle.sheet_words.specs.Lines.{joined}
use Rattle.sheet_words.specs.Manner.{lines, said, told}
use Rattle.sheet_words.specs.Lines.{sentences}
use Rattle.sheet_words.proofs.story.write_decisions.Goals as goal

-- sentences as lines
as_lines : (texts : List (List (List ℕ))) → flat_map (told lines) texts ≡ text_of_lines (map joined texts)
unfolding said text_of_lines
as_lines texts = sym (flat_map-map ended joined texts)

pub returns : goal.returns
returns g c =
    subst (λ (l : List ℕ). Writes g.K.Sink.written g.K.Sink.faults c.args.sink.now c.write_sentences.new.sink
    l c.write_sentences.result)
    (as_lines (sentences g.row.P c.args.values.now)) c.write_sentences.ensures
