-- Links to the parts of the rounds.
use Rattle.std.specs.Prelude.{ℕ, ◌+◌, if◌then◌else◌, List, [], ◌∷◌, ◌++◌, length, codes, decimal}
use Rattle.page_tree.specs.Trees.{Attribute, Trees, Nothing}
use Rattle.sheet_reader.specs.Values.{SheetList}
use Rattle.sheet_minutes.specs.Rounds.{ends_round, row_at}
use Rattle.sheet_page.specs.declared.part_names.PartNames.{PartNames}
use Rattle.sheet_page.specs.declared.part_names.PartNames.TheVariants.{Alone, OfFreeze}
use Rattle.sheet_page.specs.Trees.{each, el, words, at}
use Rattle.sheet_page.specs.Values.{all_places}

-- What the names of the parts of a sheet begin with: on a page of its own with the letter `i`, and among the sheets of a day with its
-- freeze, too. 102 is `f`.
abbrev pub names_front : PartNames → List ℕ
names_front Alone = codes "i"
names_front (OfFreeze line) = 102 ∷ decimal line ++ codes "i"

-- the name of the part of the round that ends at a place: no two parts have one name, though two rounds may have one number
abbrev pub part_name : PartNames → (last : ℕ) → List ℕ
part_name names last = names_front names ++ decimal (last + 1)

abbrev pub part_attributes : (name : List ℕ) → List Attribute
part_attributes name = at (codes "id") name ∷ []

-- where the link to this part leads; 35 is `#`
abbrev pub link_to : PartNames → (last : ℕ) → List ℕ
link_to names last = 35 ∷ part_name names last

abbrev pub round_link : (target : List ℕ) → (round : ℕ) → Trees
round_link target round =
    el (codes "li") [] (
    el (codes "a") (at (codes "href") target ∷ []) (words (codes "Round ") ∷ words (decimal round) ∷ []) ∷ []
    )

-- the link to a round, if it ends at this place
abbrev pub link_at : PartNames → SheetList → (i : ℕ) → Trees
link_at names v i = if ends_round v.rows i then round_link (link_to names i) (row_at v.rows i).round else Nothing

abbrev pub link_list : PartNames → SheetList → Trees
link_list names v = el (codes "ul") [] (each (link_at names v) (all_places (length v.rows)) ∷ [])

abbrev pub links : PartNames → SheetList → Trees
links names v = el (codes "nav") (at (codes "aria-label") (codes "Rounds") ∷ []) (link_list names v ∷ [])
