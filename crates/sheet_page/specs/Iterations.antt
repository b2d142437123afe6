-- The iterations of a round, folded away: each with the candidates that it concerns, by their numbers.
use Rattle.std.specs.Prelude.{ℕ, ◌+◌, ◌&&◌, not, Bool, true, false, nat_eq, List, if◌then◌else◌, [], ◌∷◌, ◌++◌, length, codes, decimal, slice_index}
use Rattle.candidate_roll.specs.State.{state_at}
use Rattle.candidate_roll.specs.declared.state.State.{State}
use Rattle.candidate_roll.specs.declared.state.State.TheVariants.{Hopeful, Elected, Defeated, Withdrawn}
use Rattle.fixed_place.specs.Rounding.{scale}
use Rattle.fixed_place.specs.Text.{text_of}
use Rattle.meek_rule.specs.Row.{Row}
use Rattle.page_tree.specs.Trees.{Trees, Nothing}
use Rattle.sheet_reader.specs.Values.{SheetList}
use Rattle.sheet_minutes.specs.Rounds.{row_at}
use Rattle.sheet_page.specs.Stretches.{is_of_round}
use Rattle.sheet_page.specs.Trees.{each, el, words}
use Rattle.sheet_page.specs.Values.{all_places, step_word}

-- ---- a candidate in an iteration

-- is out of the count
abbrev pub is_out : State → Bool
is_out Hopeful = false
is_out Elected = false
is_out Defeated = true
is_out Withdrawn = true

-- An iteration concerns a candidate, but for one who is out of the count, keeps nothing and has no vote.
abbrev pub concerns : Row → (p : ℕ) → Bool
concerns row p =
    not (is_out (state_at row.states p) && nat_eq (slice_index row.keeps p) 0 && nat_eq (slice_index row.votes p) 0)

-- the state before an iteration, where it is not hopeful
abbrev pub state_note : State → List ℕ
state_note Hopeful = []
state_note Elected = codes " elected"
state_note Defeated = codes " defeated"
state_note Withdrawn = codes " withdrawn"

-- the keep value before an iteration, where it is not 1
abbrev pub keep_note : (places keep : ℕ) → List ℕ
keep_note places keep = if nat_eq keep (scale places) then [] else codes ", keeps " ++ text_of places keep

abbrev pub standing : (places number : ℕ) → (state keep : List ℕ) → (vote : ℕ) → Trees
standing places number state keep vote =
    el (codes "dd") [] (
    words (decimal number) ∷ words state ∷ words keep ∷ words (codes ": ") ∷ words (text_of places vote) ∷ []
    )

-- a candidate's number, its state and keep value before an iteration, and its vote in it
abbrev pub standing_of : (places : ℕ) → Row → (p : ℕ) → Trees
standing_of places row p =
    standing places (p + 1) (state_note (state_at row.states p)) (keep_note places (slice_index row.keeps p)) (slice_index row.votes p)

abbrev pub standing_at : (places : ℕ) → Row → (p : ℕ) → Trees
standing_at places row p = if concerns row p then standing_of places row p else Nothing

-- ---- an iteration

-- the number and the amounts of an iteration, and its step
abbrev pub iteration_line : (places iteration total quota surplus : ℕ) → (step : List ℕ) → Trees
iteration_line places iteration total quota surplus step =
    el (codes "dt") [] (
    words (codes "Iteration ") ∷ words (decimal iteration) ∷ words (codes ": total ") ∷ words (text_of places total)
    ∷ words (codes ", quota ") ∷ words (text_of places quota) ∷ words (codes ", surplus ") ∷ words (text_of places surplus)
    ∷ words (codes ", step ") ∷ words step ∷ []
    )

abbrev pub iteration_head : (places : ℕ) → Row → Trees
iteration_head places row = iteration_line places row.iteration row.total row.quota row.surplus (step_word row.step)

abbrev pub iteration : (places : ℕ) → SheetList → Row → Trees
iteration places v row = el (codes "dl") [] (iteration_head places row ∷ each (standing_at places row) (all_places (length v.names)) ∷ [])

-- the iteration at a place, if it is of the round that ends at the last
abbrev pub iteration_at : (places : ℕ) → SheetList → (last i : ℕ) → Trees
iteration_at places v last i = if is_of_round v.rows last i then iteration places v (row_at v.rows i) else Nothing

-- the iterations of the round that ends at a place
abbrev pub iterations : (places : ℕ) → SheetList → (last : ℕ) → Trees
iterations places v last = each (iteration_at places v last) (all_places (last + 1))

abbrev pub summary : (round : ℕ) → Trees
summary round = el (codes "summary") [] (words (codes "Iterations of round ") ∷ words (decimal round) ∷ [])

abbrev pub folded : (places : ℕ) → SheetList → (last : ℕ) → Trees
folded places v last = el (codes "details") [] (summary (row_at v.rows last).round ∷ iterations places v last ∷ [])
