-- What every page says of the decisions of its sheet, and of what its count promises.
use Rattle.std.specs.Prelude.{◌≡◌, ℕ, ◌-◌, ◌&&◌, not, if◌then◌else◌, List, [], ◌∷◌, ◌++◌, codes, decimal, length, map, nat_eq, Option, Some, None}
use Rattle.std.specs.List.{flat_map, list_any}
use Rattle.fixed_place.specs.Rounding.{scale}
use Rattle.fixed_place.specs.Text.{text_of}
use Rattle.meek_rule.specs.Row.{Row}
use Rattle.sheet_reader.specs.Values.{SheetList}
use Rattle.count_promise.specs.declared.group.Group.{Group}
use Rattle.count_promise.specs.Left.{defeated, first_defeat, slack}
use Rattle.count_promise.specs.Lines.{bound_texts, none_texts}
use Rattle.count_promise.specs.Lots.{chosen_among, is_by_lot, is_in}
use Rattle.count_promise.specs.Quota.{quota_at}
use Rattle.sheet_words.specs.Lines.{at_end, joined, sentences_of}
use Rattle.sheet_words.specs.Sentences.{outcome, sentences_at_end}
use Rattle.sheet_page.specs.Html.{page}
use Rattle.sheet_page.specs.PageLaws.{at_nine, below, called_text}
use Rattle.sheet_page.specs.PageReading.{along, texts_along}
use Rattle.sheet_page.specs.Promised.{lot_verb}
use Rattle.sheet_page.specs.Values.{all_places, name_at}

-- an iteration before the first of the rounds
abbrev pub onto : Row → (rounds : List (List Row)) → List (List Row)
onto row [] = (row ∷ []) ∷ []
onto row (round ∷ rounds) = (row ∷ round) ∷ rounds

-- the iterations of each round: a round goes on as long as its number stays
abbrev pub rounds_of : List Row → List (List Row)
rounds_of [] = []
rounds_of (row ∷ []) = (row ∷ []) ∷ []
rounds_of (row ∷ next ∷ rows) =
    if nat_eq row.round next.round then onto row (rounds_of (next ∷ rows)) else (row ∷ []) ∷ rounds_of (next ∷ rows)

-- what the items of each part of a page say
abbrev pub items_of : (places : ℕ) → SheetList → List (List (List ℕ))
items_of places v = map (texts_along (codes "ul" ∷ codes "li" ∷ [])) (along (below []) (page places v))

-- the lines of what the iterations of a round decided
abbrev pub lines_of : (places : ℕ) → SheetList → (round : List Row) → List (List ℕ)
lines_of places v round = map joined (flat_map (sentences_of places v) round)

-- the lines of the end, and of what became of each candidate
abbrev pub last_lines : SheetList → List (List ℕ)
last_lines v = map joined (map at_end (sentences_at_end v) ++ map (outcome v) (all_places (length v.names)))

-- ---- the promise

-- somebody whom a lot did not choose, where the candidate at the place q is one of these and not the one at p
abbrev pub other_said : SheetList → Row → Group → (p q : ℕ) → List ℕ
other_said v row group p q = if is_in row group q && not (nat_eq q p) then codes ", and not " ++ called_text v q else []

-- whom a lot chose among these, and whom it didn't
abbrev pub lot_line : SheetList → Row → (p : ℕ) → Group → List ℕ
lot_line v row p group =
    joined (
    codes "Round " ∷ decimal row.round ∷ codes ", iteration " ∷ decimal row.iteration ∷ codes ": a lot decided that " ∷ called_text v p
    ∷ lot_verb group ∷ flat_map (other_said v row group p) (all_places (length row.states)) ∷ codes "." ∷ []
    )

-- the candidate at a place, if a lot chose it
abbrev pub lot_lines : SheetList → Row → (p : ℕ) → Option Group → List (List ℕ)
lot_lines v row p None = []
lot_lines v row p (Some group) = lot_line v row p group ∷ []

-- whom lots chose in an iteration
abbrev pub lots_of : SheetList → Row → List (List ℕ)
lots_of v row = flat_map (λ p. lot_lines v row p (chosen_among row p)) (all_places (length row.states))

-- whom lots chose, or that they decided nothing
abbrev pub lots_said : SheetList → List (List ℕ)
lots_said v = if list_any is_by_lot v.rows then flat_map (lots_of v) v.rows else codes "No lot decided anything." ∷ []

-- which seats groups of voters have, or whose defeat leaves that open
abbrev pub bound_said : (places : ℕ) → SheetList → Option Row → List ℕ
bound_said places v None = joined (bound_texts (text_of places (quota_at places v)) (text_of places (slack v.rows)))
bound_said places v (Some row) =
    let number = defeated row.step in
    joined (
    codes "Not promised: in round " ∷ decimal row.round ∷ codes ", iteration " ∷ decimal row.iteration ∷ codes ", "
    ∷ (name_at v (number - 1) ++ (codes " (" ++ (decimal number ++ codes ")")))
    ∷ codes " was defeated while " ∷ text_of places row.surplus ∷ codes " votes of surplus were not passed on. "
    ∷ none_texts (text_of places (quota_at places v))
    )

-- What a count promises: what lots decided, and which seats groups of voters have.
abbrev pub promise_lines : (places : ℕ) → SheetList → List (List ℕ)
promise_lines places v = lots_said v ++ bound_said places v (first_defeat (scale places) v.rows) ∷ []

-- The part of each round has the sentences of its iterations, each once and in their order; the part of the result has those of
-- the end, and what became of each candidate; after it is at nine places that of the promise; and no other part has any. A round
-- has the iterations that stand one after another, and together the rounds have all.
pub record SaysItsDecisions (places : ℕ) (v : SheetList) : Type 0 where
  pub items :
      items_of places v
      ≡ [] ∷ last_lines v ∷ (at_nine places (promise_lines places v) ++ [] ∷ map (lines_of places v) (rounds_of v.rows))
  pub whole : flat_map (λ round. round) (rounds_of v.rows) ≡ v.rows

abbrev pub PagesSayTheirDecisions : Type 0
PagesSayTheirDecisions = (places : ℕ) (v : SheetList) → SaysItsDecisions places v
