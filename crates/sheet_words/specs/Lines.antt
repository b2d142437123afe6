-- The decisions of a whole count, line by line.
use Rattle.std.specs.Prelude.{ℕ, List, [], ◌∷◌, ◌++◌, length, codes, decimal, map}
use Rattle.std.specs.List.{flat_map}
use Rattle.meek_rule.specs.Row.{Row}
use Rattle.sheet_reader.specs.Values.{SheetList}
use Rattle.sheet_words.specs.declared.decision.Decision.{Decision}
use Rattle.sheet_words.specs.Groups.{all_places}
use Rattle.sheet_words.specs.Sentences.{decisions_of, sentence, sentences_at_end, outcome}

-- which iteration of which round it is
abbrev pub numbers : Row → List (List ℕ)
numbers row = codes "Round " ∷ decimal row.round ∷ codes ", iteration " ∷ decimal row.iteration ∷ codes ": " ∷ []

-- a decision of an iteration, after the numbers of it
abbrev pub numbered : (places : ℕ) → SheetList → Row → Decision → List (List ℕ)
numbered places v row decision = numbers row ++ sentence places v row decision

-- the sentences of an iteration
abbrev pub sentences_of : (places : ℕ) → SheetList → Row → List (List (List ℕ))
sentences_of places v row = map (numbered places v row) (decisions_of row)

-- a sentence of the end
abbrev pub at_end : List (List ℕ) → List (List ℕ)
at_end texts = codes "End: " ∷ texts

-- what became of each candidate
abbrev pub results : SheetList → List (List (List ℕ))
results v = (codes "Result" ∷ []) ∷ map (outcome v) (all_places (length v.names))

-- What a count decided: by its iterations in their order, at its end, and for each candidate.
abbrev pub sentences : (places : ℕ) → SheetList → List (List (List ℕ))
sentences places v = flat_map (sentences_of places v) v.rows ++ (map at_end (sentences_at_end v) ++ results v)

-- texts one after another
abbrev pub joined : List (List ℕ) → List ℕ
joined texts = flat_map (λ text. text) texts

-- the sentences as lines
abbrev pub decision_lines : (places : ℕ) → SheetList → List (List ℕ)
decision_lines places v = map joined (sentences places v)
