-- What every page shows of its sheet.
use Rattle.std.specs.Prelude.{◌≡◌, ◌↔◌, ℕ, ◌+◌, ◌<◌, ◌≤◌, All, true, false, if◌then◌else◌, List, [], ◌∷◌, ◌++◌, length, map, codes, decimal, nat_eq, slice_index}
use Rattle.std.specs.List.{filter, flat_map}
use Rattle.candidate_roll.specs.State.{state_at}
use Rattle.candidate_roll.specs.declared.state.State.{State}
use Rattle.candidate_roll.specs.declared.state.State.TheVariants.{Elected}
use Rattle.fixed_place.specs.Text.{text_of}
use Rattle.lot_order.specs.Flags.{mark_at}
use Rattle.meek_rule.specs.Row.{Row}
use Rattle.sheet_text.specs.Lines.{state_word}
use Rattle.page_tree.specs.Trees.{Trees}
use Rattle.sheet_reader.specs.Form.{IsPrintable}
use Rattle.sheet_reader.specs.Values.{SheetList}
use Rattle.sheet_minutes.specs.Rounds.{left_over, row_at}
use Rattle.sheet_page.specs.Bars.{has_bar, rest_count, rest_votes}
use Rattle.sheet_page.specs.Html.{is_seated, page}
use Rattle.sheet_page.specs.Iterations.{concerns, keep_note, state_note}
use Rattle.sheet_page.specs.Json.{joined}
use Rattle.sheet_page.specs.PageReading.{along, children, texts_along}
use Rattle.sheet_page.specs.RoundEnds.{settled}
use Rattle.sheet_page.specs.Values.{all_places, name_at, step_word}

-- a path below the parts of a page
abbrev pub below : (path : List (List ℕ)) → List (List ℕ)
below path = codes "html" ∷ codes "body" ∷ codes "main" ∷ codes "section" ∷ path

-- ---- who is elected

-- a candidate's name, and its number in brackets
abbrev pub called_text : SheetList → (p : ℕ) → List ℕ
called_text v p = name_at v p ++ (codes " (" ++ (decimal (p + 1) ++ codes ")"))

abbrev pub elected_line : SheetList → (round p : ℕ) → List ℕ
elected_line v round p = joined (called_text v p ∷ codes ": elected in round " ∷ decimal round ∷ [])

abbrev pub seated_line : SheetList → (p : ℕ) → List ℕ
seated_line v p = joined (called_text v p ∷ codes ": elected at the end, to a seat that was left" ∷ [])

-- a line for each candidate that an iteration marks as elected, in the order of their numbers
abbrev pub marked_lines : SheetList → Row → List (List ℕ)
marked_lines v row = map (elected_line v row.round) (filter (mark_at row.elected) (all_places (length v.names)))

-- The list of a page has an item for each mark of each iteration, and for each candidate that is elected in the end and was
-- in no iteration; and no other.
pub record ListsItsElected (places : ℕ) (v : SheetList) : Type 0 where
  pub items :
      texts_along (below (codes "ol" ∷ codes "li" ∷ [])) (page places v)
      ≡ flat_map (marked_lines v) v.rows ++ map (seated_line v) (filter (is_seated v) (all_places (length v.names)))
  pub seated :
      (p : ℕ) → (is_seated v p ≡ true)
      ↔ ((state_at v.last p ≡ Elected) × ((i : ℕ) → i < length v.rows → mark_at (row_at v.rows i).elected p ≡ false))

abbrev pub PagesListTheirElected : Type 0
PagesListTheirElected = (places : ℕ) (v : SheetList) → ListsItsElected places v

-- ---- rounds

-- what a page has at nine places alone
abbrev pub at_nine : {X : Type 0} → (places : ℕ) → X → List X
at_nine places x = if nat_eq places 9 then x ∷ [] else []

-- The last iteration of each round, with what the candidates are after it: as before the next one, or as in the end. A round
-- goes on as long as its number stays.
abbrev pub round_ends : List Row → (last : List State) → List Row
round_ends [] last = []
round_ends (row ∷ []) last = settled row last ∷ []
round_ends (row ∷ next ∷ rows) last =
    if nat_eq row.round next.round then round_ends (next ∷ rows) last
    else settled row next.states ∷ round_ends (next ∷ rows) last

abbrev pub ends_of : SheetList → List Row
ends_of v = round_ends v.rows v.last

-- a candidate's vote and state
abbrev pub vote_text : (places : ℕ) → Row → (p : ℕ) → List ℕ
vote_text places row p = text_of places (slice_index row.votes p) ++ (codes " " ++ state_word (state_at row.states p))

-- the cells of a candidate: its vote and state at the end of each round
abbrev pub line_texts : (places : ℕ) → SheetList → (p : ℕ) → List (List ℕ)
line_texts places v p = map (λ row. vote_text places row p) (ends_of v)

-- what the cells of this name say, in each line below the head of the table of rounds
abbrev pub cells_of : (places : ℕ) (name : List ℕ) → SheetList → List (List (List ℕ))
cells_of places name v =
    map (texts_along (name ∷ [])) (along (below (codes "div" ∷ codes "table" ∷ codes "tbody" ∷ codes "tr" ∷ [])) (page places v))

-- what stands over a candidate's bar: its state, vote, name and number
abbrev pub label_text : (places : ℕ) → SheetList → Row → (p : ℕ) → List ℕ
label_text places v row p =
    joined (
    state_word (state_at row.states p) ∷ codes " " ∷ text_of places (slice_index row.votes p) ∷ codes " " ∷ called_text v p ∷ []
    )

-- what is said of those who stand and have no bar, if there are any
abbrev pub rest_line : (places : ℕ) → Row → List ℕ
rest_line places row =
    if nat_eq (rest_count row) 0 then [] else
    joined (
    codes " With fewer votes and without a bar: " ∷ decimal (rest_count row) ∷ codes ". Their votes together: "
    ∷ text_of places (rest_votes row) ∷ codes "." ∷ []
    )

-- what is said of the amounts of a round
abbrev pub amounts_line : (places : ℕ) → SheetList → Row → List ℕ
amounts_line places v row =
    joined (
    codes "Quota " ∷ text_of places row.quota ∷ codes ": the broken line. On no candidate: "
    ∷ text_of places (left_over places v.ballots row) ∷ codes "." ∷ rest_line places row ∷ []
    )

-- where the sentences of a promise are explained
abbrev pub promise_said : List ℕ
promise_said = codes "Anybody can work this out from the sheet: docs/FORMATS.md says how, under What one count promises."

-- A page has a part with a title for each round, with a label for each candidate who has a bar and its iterations within the part; and the
-- table has a column for each round below its number, and a line for the quota, for what is on no candidate, and for each
-- candidate; and there is a link to each round. All stand in the order of the rounds. Before them are the parts of who is
-- elected, of the result, at nine places of the promise, and of the table, and there is no other.
pub record HasItsRounds (places : ℕ) (v : SheetList) : Type 0 where
  pub links :
      texts_along (codes "html" ∷ codes "body" ∷ codes "main" ∷ codes "nav" ∷ codes "ul" ∷ codes "li" ∷ []) (page places v)
      ≡ map (λ row. codes "Round " ++ decimal row.round) (ends_of v)
  pub titles :
      texts_along (below (codes "h2" ∷ [])) (page places v)
      ≡ codes "Elected" ∷ codes "Result" ∷ (at_nine places (codes "What this count promises")
      ++ codes "Votes at the end of each round" ∷ map (λ row. codes "Round " ++ decimal row.round) (ends_of v))
  pub folded :
      texts_along (below (codes "details" ∷ codes "summary" ∷ [])) (page places v)
      ≡ map (λ row. codes "Iterations of round " ++ decimal row.round) (ends_of v)
  pub labels :
      texts_along (below (codes "svg" ∷ codes "text" ∷ [])) (page places v)
      ≡ flat_map (λ row. map (label_text places v row) (filter (has_bar row) (all_places (length v.names)))) (ends_of v)
  pub amounts : texts_along (below (codes "p" ∷ [])) (page places v) ≡ at_nine places promise_said ++ map (amounts_line places v) (ends_of v)
  pub columns :
      texts_along (below (codes "div" ∷ codes "table" ∷ codes "thead" ∷ codes "tr" ∷ codes "th" ∷ [])) (page places v)
      ≡ codes "Candidate" ∷ map (λ row. decimal row.round) (ends_of v)
  pub heads :
      cells_of places (codes "th") v
      ≡ (codes "Quota" ∷ []) ∷ (codes "On no candidate" ∷ [])
      ∷ map (λ p. called_text v p ∷ []) (all_places (length v.names))
  pub cells :
      cells_of places (codes "td") v
      ≡ map (λ row. text_of places row.quota) (ends_of v) ∷ map (λ row. text_of places (left_over places v.ballots row)) (ends_of v)
      ∷ map (line_texts places v) (all_places (length v.names))

abbrev pub PagesHaveTheirRounds : Type 0
PagesHaveTheirRounds = (places : ℕ) (v : SheetList) → HasItsRounds places v

-- ---- iterations

-- the number and the amounts of an iteration, and its step
abbrev pub iteration_text : (places : ℕ) → Row → List ℕ
iteration_text places row =
    joined (
    codes "Iteration " ∷ decimal row.iteration ∷ codes ": total " ∷ text_of places row.total ∷ codes ", quota " ∷ text_of places row.quota
    ∷ codes ", surplus " ∷ text_of places row.surplus ∷ codes ", step " ∷ step_word row.step ∷ []
    )

-- a candidate's number, its state and keep value before an iteration, and its vote in it
abbrev pub standing_text : (places : ℕ) → Row → (p : ℕ) → List ℕ
standing_text places row p =
    joined (
    decimal (p + 1) ∷ state_note (state_at row.states p) ∷ keep_note places (slice_index row.keeps p) ∷ codes ": "
    ∷ text_of places (slice_index row.votes p) ∷ []
    )

-- what the elements of this name say, in each iteration that a page has in its parts
abbrev pub iterations_of : (places : ℕ) (name : List ℕ) → SheetList → List (List (List ℕ))
iterations_of places name v = map (texts_along (name ∷ [])) (along (below (codes "details" ∷ codes "dl" ∷ [])) (page places v))

-- The parts of a page together have each iteration of the sheet once, in their order: its amounts, and below them, by rising
-- numbers, each candidate that it concerns. Whoever has a vote or keeps anything is among them.
pub record HasItsIterations (places : ℕ) (v : SheetList) : Type 0 where
  pub heads : iterations_of places (codes "dt") v ≡ map (λ row. iteration_text places row ∷ []) v.rows
  pub candidates :
      iterations_of places (codes "dd") v
      ≡ map (λ row. map (standing_text places row) (filter (concerns row) (all_places (length v.names)))) v.rows
  pub left_out :
      (row : Row) (p : ℕ)
      → concerns row p ≡ false → (slice_index row.votes p ≡ 0) × (slice_index row.keeps p ≡ 0)

abbrev pub PagesHaveTheirIterations : Type 0
PagesHaveTheirIterations = (places : ℕ) (v : SheetList) → HasItsIterations places v

-- ---- pictures

-- what is within each picture of a page
abbrev pub pictures_of : (places : ℕ) → SheetList → List Trees
pictures_of places v = along (below (codes "svg" ∷ [])) (page places v)

-- how many bars stand in a picture
abbrev pub bar_count : (picture : Trees) → ℕ
bar_count picture = length (children (codes "rect") picture)

-- No picture of a sheet's page has more than 24 bars, whoever stands and with what votes.
abbrev pub PicturesAreSmall : Type 0
PicturesAreSmall = (places : ℕ) (v : SheetList) → IsPrintable places v → All (λ picture. bar_count picture ≤ 24) (pictures_of places v)
