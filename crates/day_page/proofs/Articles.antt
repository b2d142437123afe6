-- What the part of a freeze shows is what the page of its sheet shows.
use Rattle.std.proofs.Common.{◌≡◌, ◌≢◌, ◌∙◌, sym, ap, ℕ, false, List, [], ◌∷◌, ◌++◌, append-nil, map, length}
use Rattle.std.specs.Prelude.{if◌then◌else◌, codes}
use Rattle.std.specs.List.{flat_map}
use Rattle.std.specs.Str.{bytes_eq}
use Rattle.std.proofs.lemmas.Bool.{false_from_ne_true}
use Rattle.std.proofs.lemmas.List.Concat.{flat_map_single}
use Rattle.std.proofs.lemmas.Slice.Eq.{bytes_eq-Decides}
use Rattle.day_text.specs.Values.{DayTextList, FrozenSheet}
use Rattle.page_tree.specs.Trees.{Trees, Nothing, followed}
use Rattle.sheet_reader.specs.Values.{SheetList}
use Rattle.sheet_page.specs.declared.part_names.PartNames.TheVariants.{Alone, OfFreeze}
use Rattle.sheet_page.specs.Html.{page, sheet_parts}
use Rattle.sheet_page.specs.PageReading.{along, children, text_in, unnamed}
use Rattle.sheet_page.specs.Trees.{all}
use Rattle.sheet_page.proofs.PageWalks.{behind_nothing, found, found_each}
use Rattle.sheet_page.proofs.Unnamed.{along_alike, parts_alike, texts_alike}
use Rattle.day_page.specs.DayHtml.{day_page}
use Rattle.day_page.specs.Freezes.{freeze_part, freeze_parts, freeze_title, whose}
use Rattle.day_page.specs.Laws.{PagesSayTheirSheets, PagesShowTheirSheets, below}
use Rattle.day_page.specs.Lists.{own_first}
use Rattle.day_page.proofs.DayWalks.{below_main}

-- the content of the page of a sheet
in_content :
    (name : List ℕ) (path : List (List ℕ)) (places : ℕ) (v : SheetList)
    → along (below (name ∷ path)) (page places v) ≡ along (name ∷ path) (sheet_parts Alone places v)
in_content name path places v =
    let them = along (name ∷ path) (sheet_parts Alone places v) in
    append-nil ((them ++ []) ++ []) ∙ append-nil (them ++ []) ∙ append-nil them

-- a path below the title of the part, and what is the same of trees that are alike but for names
module _
    {X : Type 0} (h : Trees → X) (name : List ℕ) (path : List (List ℕ)) (apart : name ≢ codes "h1")
    (same :
    (trees others : Trees) → unnamed trees ≡ unnamed others
    → map h (along (name ∷ path) trees) ≡ map h (along (name ∷ path) others)) where
  no_title : bytes_eq (codes "h1") name ≡ false
  no_title =
      false_from_ne_true (bytes_eq (codes "h1") name) (λ is. apart (sym ((bytes_eq-Decides (codes "h1") name).0 is)))

  in_article :
      (places calls : ℕ) (s : FrozenSheet)
      → found (λ article. map h (along (name ∷ path) article)) (codes "article") [] (freeze_part places calls s)
      ≡ map h (along (below (name ∷ path)) (page places s.values)) ∷ []
  in_article places calls s =
      let title = all (freeze_title s.freeze (whose calls s.freeze)) in
      let parts = sheet_parts (OfFreeze s.freeze) places s.values in
      let rest = children name (followed parts Nothing) in
      ap (λ l. l ∷ []) (
      ap (λ b. map h (flat_map (along path) (if b then title ∷ rest else rest))) no_title
      ∙ ap (λ trees. map h (along (name ∷ path) trees)) (behind_nothing parts)
      ∙ same parts (sheet_parts Alone places s.values) (parts_alike (OfFreeze s.freeze) Alone places s.values)
      ∙ ap (map h) (sym (in_content name path places s.values)))

  in_articles :
      (places : ℕ) (v : DayTextList)
      → map (λ article. map h (along (name ∷ path) article)) (along (below (codes "article" ∷ [])) (day_page places v))
      ≡ map (λ s. map h (along (below (name ∷ path)) (page places s.values))) (own_first v.sheets)
  in_articles places v =
      let calls = length v.history in
      let of_article = λ (article : Trees). map h (along (name ∷ path) article) in
      ap (map of_article) (below_main (codes "article" ∷ []) places v)
      ∙ ap (found of_article (codes "article") []) (behind_nothing (freeze_parts places calls v.sheets))
      ∙ found_each of_article (codes "article") [] (freeze_part places calls) (own_first v.sheets)
      ∙ (λ j. flat_map (λ s. in_article places calls s j) (own_first v.sheets))
      ∙ flat_map_single (λ (s : FrozenSheet). map h (along (below (name ∷ path)) (page places s.values))) (own_first v.sheets)

pub sheets_said : PagesSayTheirSheets
sheets_said places v name path apart = in_articles text_in name path apart (texts_alike (name ∷ path)) places v

pub sheets_shown : PagesShowTheirSheets
sheets_shown places v name path apart = in_articles unnamed name path apart (along_alike (name ∷ path)) places v
