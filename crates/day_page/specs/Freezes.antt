-- The sheets of a day's freezes on a page. A freeze is called by the number of its call.
use Rattle.std.specs.Prelude.{ℕ, if◌then◌else◌, List, [], ◌∷◌, codes, decimal, nat_eq}
use Rattle.page_tree.specs.Trees.{Trees}
use Rattle.sheet_reader.specs.Values.{SheetList}
use Rattle.day_text.specs.Values.{FrozenSheet}
use Rattle.sheet_page.specs.declared.part_names.PartNames.TheVariants.{OfFreeze}
use Rattle.sheet_page.specs.Html.{sheet_parts}
use Rattle.sheet_page.specs.Links.{part_attributes}
use Rattle.sheet_page.specs.Trees.{at, each, el, words}
use Rattle.day_page.specs.Lists.{own_first}

-- The freeze that is the last of so many calls is the office's own.
abbrev pub whose : (calls freeze : ℕ) → List ℕ
whose calls freeze = if nat_eq freeze calls then codes ", the office's own" else []

-- which freeze it is, whose, and after which call
abbrev pub freeze_title : (freeze : ℕ) → (whose : List ℕ) → List Trees
freeze_title freeze whose =
    words (codes "Freeze ") ∷ words (decimal freeze) ∷ words whose
    ∷ words (codes ": what stands after call ") ∷ words (decimal freeze) ∷ []

-- the name of the part of a freeze; 102 is `f`
abbrev pub freeze_name : (freeze : ℕ) → List ℕ
freeze_name freeze = 102 ∷ decimal freeze

-- ---- links

abbrev pub freeze_link : (target : List ℕ) → (freeze : ℕ) → (whose : List ℕ) → Trees
freeze_link target freeze whose = el (codes "li") [] (el (codes "a") (at (codes "href") target ∷ []) (freeze_title freeze whose) ∷ [])

-- the link to the part of a freeze; 35 is `#`
abbrev pub link_of : (calls : ℕ) → FrozenSheet → Trees
link_of calls s = freeze_link (35 ∷ freeze_name s.freeze) s.freeze (whose calls s.freeze)

abbrev pub link_list : (calls : ℕ) → List FrozenSheet → Trees
link_list calls sheets = el (codes "ul") [] (each (link_of calls) (own_first sheets) ∷ [])

abbrev pub freeze_links : (calls : ℕ) → List FrozenSheet → Trees
freeze_links calls sheets = el (codes "nav") (at (codes "aria-label") (codes "Freezes") ∷ []) (link_list calls sheets ∷ [])

-- ---- sheets

abbrev pub freeze_heading : (freeze : ℕ) → (whose : List ℕ) → Trees
freeze_heading freeze whose = el (codes "h1") [] (freeze_title freeze whose)

-- a freeze, whose it is, and all that a page shows of its sheet
abbrev pub article : (places freeze : ℕ) → (whose : List ℕ) → SheetList → Trees
article places freeze whose v =
    el (codes "article") (part_attributes (freeze_name freeze)) (
    freeze_heading freeze whose ∷ sheet_parts (OfFreeze freeze) places v ∷ []
    )

-- a freeze of so many calls
abbrev pub freeze_part : (places calls : ℕ) → FrozenSheet → Trees
freeze_part places calls s = article places s.freeze (whose calls s.freeze) s.values

abbrev pub freeze_parts : (places calls : ℕ) → List FrozenSheet → Trees
freeze_parts places calls sheets = each (freeze_part places calls) (own_first sheets)
