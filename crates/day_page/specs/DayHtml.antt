-- A day as a page.
use Rattle.std.specs.Prelude.{ℕ, List, [], ◌∷◌, ◌++◌, codes, length}
use Rattle.batch_core.specs.declared.entry.Entry.{Entry}
use Rattle.page_tree.specs.Trees.{Trees}
use Rattle.page_tree.specs.Print.{printed}
use Rattle.day_text.specs.End.{DayEndList, day_end}
use Rattle.day_text.specs.Values.{DayTextList, FrozenSheet}
use Rattle.sheet_page.specs.Html.{style_part, window_title}
use Rattle.sheet_page.specs.Trees.{all, at, el, void, words}
use Rattle.day_page.specs.CallTable.{calls_part}
use Rattle.day_page.specs.EndPart.{end_part}
use Rattle.day_page.specs.Freezes.{freeze_links, freeze_parts}

abbrev pub day_name : List ℕ
day_name = codes "A day of ballot entry"

abbrev pub day_heading : Trees
day_heading = el (codes "h1") [] (words day_name ∷ [])

-- calls with their answers, what is in the end, and sheets
abbrev pub content_with : (places : ℕ) → List Entry → List FrozenSheet → DayEndList → Trees
content_with places history sheets end =
    el (codes "main") [] (
    day_heading ∷ freeze_links (length history) sheets ∷ calls_part history ∷ end_part end
    ∷ freeze_parts places (length history) sheets ∷ []
    )

abbrev pub day_content : (places : ℕ) → DayTextList → Trees
day_content places v = content_with places v.history v.sheets (day_end v.history)

abbrev pub day_body : (places : ℕ) → DayTextList → Trees
day_body places v = el (codes "body") [] (day_content places v ∷ [])

-- what a browser is told of the page
abbrev pub told_of_page : Trees
told_of_page =
    all (
    void (codes "meta") (at (codes "charset") (codes "utf-8") ∷ [])
    ∷ void (codes "meta") (at (codes "name") (codes "viewport") ∷ at (codes "content") (codes "width=device-width") ∷ [])
    ∷ window_title day_name ∷ []
    )

abbrev pub day_head : Trees
day_head = el (codes "head") [] (told_of_page ∷ style_part ∷ [])

abbrev pub day_page : (places : ℕ) → DayTextList → Trees
day_page places v = el (codes "html") (at (codes "lang") (codes "en") ∷ []) (day_head ∷ day_body places v ∷ [])

-- a page, in one line; 10 is the line feed that ends it
abbrev pub day_html : (places : ℕ) → DayTextList → List ℕ
day_html places v = codes "<!DOCTYPE html>" ++ (printed (day_page places v) ++ 10 ∷ [])
