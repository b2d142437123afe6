-- A sheet as a page.
use Rattle.std.specs.Prelude.{ℕ, ◌+◌, ◌&&◌, not, Bool, if◌then◌else◌, List, [], ◌∷◌, ◌++◌, length, codes, decimal}
use Rattle.std.specs.List.{list_any}
use Rattle.candidate_roll.specs.State.{state_at}
use Rattle.lot_order.specs.Flags.{mark_at}
use Rattle.meek_rule.specs.Row.{Row}
use Rattle.meek_rule.specs.Situation.{is_elected}
use Rattle.page_tree.specs.Trees.{Trees, Nothing, Element}
use Rattle.page_tree.specs.Print.{printed}
use Rattle.sheet_reader.specs.Values.{SheetList}
use Rattle.sheet_minutes.specs.Rounds.{ends_round, row_at}
use Rattle.sheet_page.specs.declared.part_names.PartNames.{PartNames}
use Rattle.sheet_page.specs.declared.part_names.PartNames.TheVariants.{Alone}
use Rattle.sheet_page.specs.Iterations.{folded}
use Rattle.sheet_page.specs.Links.{links, part_attributes, part_name}
use Rattle.sheet_page.specs.Picture.{full_of, round_picture}
use Rattle.sheet_page.specs.Promised.{promise_part}
use Rattle.sheet_page.specs.RoundEnds.{settled_at}
use Rattle.sheet_page.specs.RoundTable.{table_frame}
use Rattle.sheet_page.specs.Style.{style}
use Rattle.sheet_page.specs.Told.{result_part, round_sentences}
use Rattle.sheet_page.specs.Trees.{all, candidate, each, el, void, words, at}
use Rattle.sheet_page.specs.Values.{all_places, name_at}

-- ---- who is elected

abbrev pub in_round : (name : List ℕ) → (number round : ℕ) → Trees
in_round name number round =
    el (codes "li") [] (candidate name number (words (codes ": elected in round ") ∷ words (decimal round) ∷ []))

abbrev pub at_end : (name : List ℕ) → (number : ℕ) → Trees
at_end name number =
    el (codes "li") [] (candidate name number (words (codes ": elected at the end, to a seat that was left") ∷ []))

-- a candidate, if an iteration elected it
abbrev pub elected_item : SheetList → Row → (p : ℕ) → Trees
elected_item v row p = if mark_at row.elected p then in_round (name_at v p) (p + 1) row.round else Nothing

-- who was elected in an iteration
abbrev pub elected_in : SheetList → Row → Trees
elected_in v row = each (elected_item v row) (all_places (length v.names))

-- Some iteration elected the candidate at a place.
abbrev pub was_elected : List Row → (p : ℕ) → Bool
was_elected rows p = list_any (λ row. mark_at row.elected p) rows

-- The candidate at a place is elected in the end, and was in no iteration.
abbrev pub is_seated : SheetList → (p : ℕ) → Bool
is_seated v p = is_elected (state_at v.last p) && not (was_elected v.rows p)

abbrev pub seated_item : SheetList → (p : ℕ) → Trees
seated_item v p = if is_seated v p then at_end (name_at v p) (p + 1) else Nothing

-- the elected, in their order
abbrev pub elected_list : SheetList → Trees
elected_list v = el (codes "ol") [] (each (elected_in v) v.rows ∷ each (seated_item v) (all_places (length v.names)) ∷ [])

abbrev pub elected_title : Trees
elected_title = el (codes "h2") [] (words (codes "Elected") ∷ [])

abbrev pub elected_part : SheetList → Trees
elected_part v = el (codes "section") [] (elected_title ∷ elected_list v ∷ [])

-- ---- the votes of all rounds

abbrev pub rounds_title : Trees
rounds_title = el (codes "h2") [] (words (codes "Votes at the end of each round") ∷ [])

-- a word, and what it means
abbrev pub meaning : (word meant : List ℕ) → List Trees → List Trees
meaning word meant behind = el (codes "dt") [] (words word ∷ []) ∷ el (codes "dd") [] (words meant ∷ []) ∷ behind

-- what the words of a count mean
abbrev pub hopeful_means : List ℕ
hopeful_means = codes "neither elected nor defeated so far."

abbrev pub keep_value_means : List ℕ
keep_value_means = codes "the part of each vote which reaches a candidate that the candidate keeps. The rest goes on to the next on the ballot. It is 1 for the hopeful; for the elected it is changed from one iteration to the next, down or up, so that each keeps about a quota."

abbrev pub on_no_candidate_means : List ℕ
on_no_candidate_means = codes "the votes that nobody keeps, since their ballots rank no further candidate who could."

abbrev pub iterations_mean : List ℕ
iterations_mean = codes "each candidate by its number, with its vote; one of whom nothing else is said is hopeful and keeps 1. Who is defeated or withdrawn and has no vote is left out."

-- the words of a count that a reader may not know
abbrev pub words_explained : Trees
words_explained =
    el (codes "dl") [] (
    meaning (codes "Hopeful") hopeful_means (
    meaning (codes "Keep value") keep_value_means (
    meaning (codes "On no candidate") on_no_candidate_means (
    meaning (codes "In the iterations") iterations_mean []))))

abbrev pub rounds_part : PartNames → (places : ℕ) → SheetList → Trees
rounds_part names places v = el (codes "section") [] (rounds_title ∷ table_frame names places v ∷ words_explained ∷ [])

-- ---- each round

abbrev pub round_title : (round : ℕ) → Trees
round_title round = el (codes "h2") [] (words (codes "Round ") ∷ words (decimal round) ∷ [])

-- the part of the round that ends at a place
abbrev pub round_part : PartNames → (places : ℕ) → SheetList → (full last : ℕ) → Trees
round_part names places v full last =
    el (codes "section") (part_attributes (part_name names last)) (
    round_title (row_at v.rows last).round ∷ round_sentences places v last ∷ round_picture places v full (settled_at v last)
    ∷ folded places v last ∷ []
    )

-- the part of a round, if it ends at this place
abbrev pub part_at : PartNames → (places : ℕ) → SheetList → (full i : ℕ) → Trees
part_at names places v full i = if ends_round v.rows i then round_part names places v full i else Nothing

abbrev pub round_parts : PartNames → (places : ℕ) → SheetList → (full : ℕ) → Trees
round_parts names places v full = each (part_at names places v full) (all_places (length v.rows))

-- ---- the page

abbrev pub heading : SheetList → Trees
heading v =
    all (
    el (codes "h1") [] (words v.title ∷ [])
    ∷ el (codes "p") [] (
    words (codes "Seats: ") ∷ words (decimal v.seats)
    ∷ words (codes ". Ballots: ") ∷ words (decimal v.ballots) ∷ words (codes ".") ∷ []
    ) ∷ []
    )

-- all that a page shows of a sheet
abbrev pub sheet_parts : PartNames → (places : ℕ) → SheetList → Trees
sheet_parts names places v =
    all (
    heading v ∷ links names v ∷ elected_part v ∷ result_part v ∷ promise_part places v ∷ rounds_part names places v
    ∷ round_parts names places v (full_of v.rows) ∷ []
    )

-- what a page is for
abbrev pub content : (places : ℕ) → SheetList → Trees
content places v = Element (codes "main") [] (sheet_parts Alone places v) Nothing

abbrev pub body : (places : ℕ) → SheetList → Trees
body places v = el (codes "body") [] (content places v ∷ [])

-- the title for the window, and how the page looks
abbrev pub window_title : List ℕ → Trees
window_title text = el (codes "title") [] (words text ∷ [])

abbrev pub style_part : Trees
style_part = el (codes "style") [] (words style ∷ [])

abbrev pub head : SheetList → Trees
head v =
    el (codes "head") [] (
    void (codes "meta") (at (codes "charset") (codes "utf-8") ∷ [])
    ∷ void (codes "meta") (at (codes "name") (codes "viewport") ∷ at (codes "content") (codes "width=device-width") ∷ [])
    ∷ window_title v.title ∷ style_part ∷ []
    )

abbrev pub page : (places : ℕ) → SheetList → Trees
page places v = el (codes "html") (at (codes "lang") (codes "en") ∷ []) (head v ∷ body places v ∷ [])

-- a page, in one line; 10 is the line feed that ends it
abbrev pub html_of : (places : ℕ) → SheetList → List ℕ
html_of places v = codes "<!DOCTYPE html>" ++ (printed (page places v) ++ 10 ∷ [])
