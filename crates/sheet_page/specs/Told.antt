-- What a count decided, on a page: a sentence each.
use Rattle.std.specs.Prelude.{ℕ, ◌+◌, if◌then◌else◌, List, [], ◌∷◌, ◌++◌, codes, length, map}
use Rattle.std.specs.Char.{is_ascii}
use Rattle.std.specs.List.{list_all}
use Rattle.page_tree.specs.Print.{closing, opening, shown}
use Rattle.page_tree.specs.Trees.{Trees, Nothing}
use Rattle.sheet_reader.specs.Values.{SheetList}
use Rattle.sheet_words.specs.Lines.{at_end, sentences_of}
use Rattle.sheet_words.specs.Manner.{Manner}
use Rattle.sheet_words.specs.Sentences.{outcome, sentences_at_end}
use Rattle.sheet_minutes.specs.Rounds.{row_at}
use Rattle.sheet_page.specs.Stretches.{is_of_round}
use Rattle.sheet_page.specs.Trees.{each, el, isolated, words}
use Rattle.sheet_page.specs.Values.{all_places}

-- A text of a sentence. Only a name can have bytes that are no ASCII, as those of letters that are written from right to left and
-- of signs of direction: such a text is set apart from what stands around it, so that it moves nothing there.
abbrev pub spoken : (text : List ℕ) → Trees
spoken text = if list_all is_ascii text then words text else isolated text

-- a sentence as an item of a list, its texts one after another
abbrev pub item : (texts : List (List ℕ)) → Trees
item texts = el (codes "li") [] (map spoken texts)

-- a text that is set apart, as it is written
abbrev pub isolated_text : (text : List ℕ) → List ℕ
isolated_text text = opening (codes "bdi") [] ++ (shown text ++ closing (codes "bdi"))

-- a text of a sentence as it is written
abbrev pub voiced_text : (text : List ℕ) → List ℕ
voiced_text text = if list_all is_ascii text then shown text else isolated_text text

-- how items are written
abbrev pub items : Manner
items = record { opening = opening (codes "li") []; voiced = voiced_text; closing = closing (codes "li") }

-- ---- in the part of a round

-- what the iteration at a place decided, if it is of the round that ends at the last
abbrev pub sentences_at : (places : ℕ) → SheetList → (last i : ℕ) → Trees
sentences_at places v last i = if is_of_round v.rows last i then each item (sentences_of places v (row_at v.rows i)) else Nothing

-- what the iterations of the round that ends at a place decided
abbrev pub round_sentences : (places : ℕ) → SheetList → (last : ℕ) → Trees
round_sentences places v last = el (codes "ul") [] (each (sentences_at places v last) (all_places (last + 1)) ∷ [])

-- ---- the result

abbrev pub result_title : Trees
result_title = el (codes "h2") [] (words (codes "Result") ∷ [])

-- why the count ended, and what became of those on whom no iteration decided
abbrev pub end_list : SheetList → Trees
end_list v = el (codes "ul") [] (each item (map at_end (sentences_at_end v)) ∷ [])

-- what became of each candidate
abbrev pub outcome_list : SheetList → Trees
outcome_list v = el (codes "ul") [] (each item (map (outcome v) (all_places (length v.names))) ∷ [])

abbrev pub result_part : SheetList → Trees
result_part v = el (codes "section") [] (result_title ∷ end_list v ∷ outcome_list v ∷ [])
