-- Pages of days have well named elements, so they nest.
use Rattle.std.proofs.Common.{◌≡◌, refl, ℕ, List, [], ◌∷◌, true, length}
use Rattle.std.specs.Prelude.{codes}
use Rattle.batch_core.specs.declared.entry.Entry.{Entry}
use Rattle.day_lines.specs.EntryText.{numbered}
use Rattle.page_tree.specs.Trees.{IsWellNamed}
use Rattle.day_text.specs.End.{DayEndList, day_end}
use Rattle.day_text.specs.Values.{DayTextList, FrozenSheet}
use Rattle.sheet_page.specs.declared.part_names.PartNames.TheVariants.{OfFreeze}
use Rattle.sheet_page.specs.Html.{sheet_parts}
use Rattle.sheet_page.specs.Links.{part_attributes}
use Rattle.sheet_page.specs.Trees.{at, each}
use Rattle.sheet_page.proofs.Nesting.{sheet_tested}
use Rattle.sheet_page.proofs.Tested.{sound, tested, tested_each, tested_el}
use Rattle.day_page.specs.CallTable.{call_heads, call_rows, call_table, calls_frame, calls_frame_attributes}
use Rattle.day_page.specs.CallTable.{calls_part, calls_title, entry_row}
use Rattle.day_page.specs.DayHtml.{day_body, day_content, day_head, day_heading, day_page}
use Rattle.day_page.specs.EndPart.{batch_item, end_counts, end_list, end_part, end_title, struck_item}
use Rattle.day_page.specs.Freezes.{freeze_heading, freeze_links, freeze_name, freeze_part, freeze_parts}
use Rattle.day_page.specs.Freezes.{link_list, link_of, whose}
use Rattle.day_page.specs.Lists.{own_first}

calls_tested : (history : List Entry) → tested (calls_part history) ≡ true
calls_tested history =
    tested_el (codes "section") [] (calls_title ∷ calls_frame history ∷ []) refl refl refl (refl, (frame, tt))
  where
    rows : tested (call_rows history) ≡ true
    rows =
        tested_el (codes "tbody") [] (each (λ (e : ℕ × Entry). entry_row e.0 e.1) (numbered history) ∷ [])
        refl refl refl
        (tested_each (λ (e : ℕ × Entry). entry_row e.0 e.1) (numbered history) (λ e. refl), tt)

    table : tested (call_table history) ≡ true
    table =
        tested_el (codes "table") [] (call_heads ∷ call_rows history ∷ []) refl refl refl (refl, (rows, tt))

    frame : tested (calls_frame history) ≡ true
    frame =
        tested_el (codes "div") calls_frame_attributes (call_table history ∷ []) refl refl refl (table, tt)

end_tested : (end : DayEndList) → tested (end_part end) ≡ true
end_tested end =
    tested_el (codes "section") []
    (end_title ∷ end_counts (length end.batches) (length end.struck) ∷ end_list end.batches end.struck ∷ [])
    refl refl refl (refl, (refl, (list, tt)))
  where
    list : tested (end_list end.batches end.struck) ≡ true
    list =
        tested_el (codes "ul") [] (each batch_item end.batches ∷ each struck_item end.struck ∷ [])
        refl refl refl
        (tested_each batch_item end.batches (λ b. refl), (tested_each struck_item end.struck (λ n. refl), tt))

links_tested : (calls : ℕ) (sheets : List FrozenSheet) → tested (freeze_links calls sheets) ≡ true
links_tested calls sheets =
    tested_el (codes "nav") (at (codes "aria-label") (codes "Freezes") ∷ []) (link_list calls sheets ∷ [])
    refl refl refl (
      tested_el (codes "ul") [] (each (link_of calls) (own_first sheets) ∷ []) refl refl refl
          (tested_each (link_of calls) (own_first sheets) (λ s. refl), tt),
      tt,
    )

freezes_tested :
    (places calls : ℕ) (sheets : List FrozenSheet) → tested (freeze_parts places calls sheets) ≡ true
freezes_tested places calls sheets = tested_each (freeze_part places calls) (own_first sheets) one
  where
    one : (s : FrozenSheet) → tested (freeze_part places calls s) ≡ true
    one s =
        tested_el (codes "article") (part_attributes (freeze_name s.freeze)) (
        freeze_heading s.freeze (whose calls s.freeze) ∷ sheet_parts (OfFreeze s.freeze) places s.values ∷ []
        ) refl refl refl (refl, (sheet_tested (OfFreeze s.freeze) places s.values, tt))

-- every page
pub well_named : (places : ℕ) (v : DayTextList) → IsWellNamed (day_page places v)
well_named places v =
    let calls = length v.history in
    sound (day_page places v) (
    tested_el (codes "html") (at (codes "lang") (codes "en") ∷ []) (day_head ∷ day_body places v ∷ [])
    refl refl refl (
      refl,
      (
        tested_el (codes "body") [] (day_content places v ∷ []) refl refl refl (
          tested_el (codes "main") [] (
              day_heading ∷ freeze_links calls v.sheets ∷ calls_part v.history ∷ end_part (day_end v.history)
              ∷ freeze_parts places calls v.sheets ∷ []
              ) refl refl refl (
                refl,
                (
                  links_tested calls v.sheets,
                  (
                    calls_tested v.history,
                    (end_tested (day_end v.history), (freezes_tested places calls v.sheets, tt)),
                  ),
                ),
              ),
          tt,
        ),
        tt,
      ),
    ))
