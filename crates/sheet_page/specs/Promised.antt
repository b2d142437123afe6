-- What a count promises, in sentences on a page.
use Rattle.std.specs.Prelude.{ℕ, ◌+◌, ◌-◌, ◌&&◌, not, if◌then◌else◌, List, [], ◌∷◌, codes, decimal, length, map, nat_eq, Option, Some, None}
use Rattle.std.specs.List.{list_any}
use Rattle.fixed_place.specs.Rounding.{scale}
use Rattle.fixed_place.specs.Text.{text_of}
use Rattle.meek_rule.specs.Row.{Row}
use Rattle.page_tree.specs.Trees.{Trees, Nothing}
use Rattle.sheet_reader.specs.Values.{SheetList}
use Rattle.count_promise.specs.declared.group.Group.{Group}
use Rattle.count_promise.specs.declared.group.Group.TheVariants.{Tied, Seated, Left}
use Rattle.count_promise.specs.Left.{defeated, first_defeat, slack}
use Rattle.count_promise.specs.Lines.{bound_texts, none_texts}
use Rattle.count_promise.specs.Lots.{chosen_among, is_by_lot, is_in}
use Rattle.count_promise.specs.Quota.{quota_at}
use Rattle.sheet_page.specs.Trees.{all, candidate, each, el, words}
use Rattle.sheet_page.specs.Values.{all_places, name_at}

-- the title of the part, and where its sentences are explained
abbrev pub promise_head : Trees
promise_head =
    all (
    el (codes "h2") [] (words (codes "What this count promises") ∷ [])
    ∷ el (codes "p") [] (
    words (codes "Anybody can work this out from the sheet: docs/FORMATS.md says how, under What one count promises.") ∷ []
    ) ∷ []
    )

-- ---- lots

-- what a lot decided of whom it chose among these
abbrev pub lot_verb : Group → List ℕ
lot_verb Tied = codes " is defeated"
lot_verb Seated = codes " is elected"
lot_verb Left = codes " is elected"

-- which iteration it was, and whom a lot chose
abbrev pub chosen : (name : List ℕ) → (number round iteration : ℕ) → (verb : List ℕ) → Trees
chosen name number round iteration verb =
    all (
    words (codes "Round ") ∷ words (decimal round) ∷ words (codes ", iteration ") ∷ words (decimal iteration)
    ∷ words (codes ": a lot decided that ") ∷ candidate name number (words verb ∷ [])
    )

-- somebody whom a lot did not choose
abbrev pub other : (name : List ℕ) → (number : ℕ) → Trees
other name number = all (words (codes ", and not ") ∷ candidate name number [])

-- the candidate at the place q, if it is one of these and not the one at p
abbrev pub other_at : SheetList → Row → Group → (p q : ℕ) → Trees
other_at v row group p q = if is_in row group q && not (nat_eq q p) then other (name_at v q) (q + 1) else Nothing

-- the candidate at a place, whom a lot chose among these
abbrev pub lot_item : SheetList → Row → (p : ℕ) → Group → Trees
lot_item v row p group =
    el (codes "li") [] (
    chosen (name_at v p) (p + 1) row.round row.iteration (lot_verb group)
    ∷ each (other_at v row group p) (all_places (length row.states)) ∷ words (codes ".") ∷ []
    )

abbrev pub lot_if : SheetList → Row → (p : ℕ) → Option Group → Trees
lot_if v row p None = Nothing
lot_if v row p (Some group) = lot_item v row p group

-- the candidate at a place, if a lot chose it
abbrev pub lot_at : SheetList → Row → (p : ℕ) → Trees
lot_at v row p = lot_if v row p (chosen_among row p)

-- whom lots chose in an iteration
abbrev pub lots_in : SheetList → Row → Trees
lots_in v row = each (lot_at v row) (all_places (length row.states))

abbrev pub no_lot_item : Trees
no_lot_item = el (codes "li") [] (words (codes "No lot decided anything.") ∷ [])

-- what lots decided, iteration by iteration, or that they decided nothing
abbrev pub lot_items : SheetList → Trees
lot_items v = if list_any is_by_lot v.rows then each (lots_in v) v.rows else no_lot_item

-- ---- the bound

-- which seats groups of voters have, by the texts of a quota and of votes besides
abbrev pub bound_item : (quota over : List ℕ) → Trees
bound_item quota over = el (codes "li") [] (map words (bound_texts quota over))

-- whose defeat leaves no bound, with the texts of a surplus and of a quota
abbrev pub none_item : (name : List ℕ) → (number round iteration : ℕ) → (surplus quota : List ℕ) → Trees
none_item name number round iteration surplus quota =
    el (codes "li") [] (
    words (codes "Not promised: in round ") ∷ words (decimal round) ∷ words (codes ", iteration ") ∷ words (decimal iteration)
    ∷ words (codes ", ") ∷ candidate name number (
    words (codes " was defeated while ") ∷ words surplus ∷ words (codes " votes of surplus were not passed on. ")
    ∷ map words (none_texts quota)
    ))

-- an iteration whose defeat leaves no bound
abbrev pub none_of : (places : ℕ) → SheetList → Row → (quota : List ℕ) → Trees
none_of places v row quota =
    none_item (name_at v (defeated row.step - 1)) (defeated row.step) row.round row.iteration (text_of places row.surplus) quota

-- the bound, or the first defeat with a surplus of a vote or more, which leaves none
abbrev pub bound_or_none : (places : ℕ) → SheetList → Option Row → Trees
bound_or_none places v None = bound_item (text_of places (quota_at places v)) (text_of places (slack v.rows))
bound_or_none places v (Some row) = none_of places v row (text_of places (quota_at places v))

-- ---- the part

abbrev pub promise_list : (places : ℕ) → SheetList → Trees
promise_list places v =
    el (codes "ul") [] (lot_items v ∷ bound_or_none places v (first_defeat (scale places) v.rows) ∷ [])

abbrev pub told_promise : (places : ℕ) → SheetList → Trees
told_promise places v = el (codes "section") [] (promise_head ∷ promise_list places v ∷ [])

-- a sheet of other places than nine has no such part
abbrev pub promise_part : (places : ℕ) → SheetList → Trees
promise_part places v = if nat_eq places 9 then told_promise places v else Nothing
