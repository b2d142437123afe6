-- A sheet as a text for a terminal, a mail or the minutes.
use Rattle.std.specs.Prelude.{ℕ, List, [], ◌∷◌, ◌++◌, codes, decimal, length, map}
use Rattle.std.specs.List.{flat_map}
use Rattle.sheet_reader.specs.Values.{SheetList}
use Rattle.sheet_words.specs.Groups.{all_places}
use Rattle.sheet_words.specs.Lines.{at_end, sentences_of}
use Rattle.sheet_words.specs.Manner.{Manner, told}
use Rattle.sheet_words.specs.Sentences.{outcome, sentences_at_end}
use Rattle.sheet_minutes.specs.Columns.{plain}
use Rattle.sheet_minutes.specs.Table.{table_text}

-- a line for each sentence; 10 is the line feed that ends a line
abbrev pub spoken : Manner
spoken = record { opening = []; voiced = plain; closing = 10 ∷ [] }

abbrev pub heading : SheetList → List ℕ
heading v =
    plain v.title
    ++ (10 ∷ codes "Seats: " ++ (decimal v.seats ++ (codes ". Ballots: " ++ (decimal v.ballots ++ (codes "." ++ 10 ∷ [])))))

-- why the count ended, and what became of each candidate
abbrev pub result_text : SheetList → List ℕ
result_text v =
    (10 ∷ codes "Result" ++ 10 ∷ [])
    ++ (flat_map (told spoken) (map at_end (sentences_at_end v))
    ++ flat_map (told spoken) (map (outcome v) (all_places (length v.names))))

-- what the iterations of each round decided
abbrev pub decisions_text : (places : ℕ) → SheetList → List ℕ
decisions_text places v = (10 ∷ codes "Decisions" ++ 10 ∷ []) ++ flat_map (told spoken) (flat_map (sentences_of places v) v.rows)

abbrev pub minutes_text : (places : ℕ) → SheetList → List ℕ
minutes_text places v = heading v ++ (result_text v ++ (table_text places v ++ decisions_text places v))
