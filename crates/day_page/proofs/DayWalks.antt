-- What is on a page of its day.
use Rattle.std.proofs.Common.{◌≡◌, ◌∙◌, refl, ap, ℕ, Bool, true, false, List, [], ◌∷◌, ◌++◌, map, length}
use Rattle.std.proofs.Common.{append-nil, append_assoc, sym}
use Rattle.std.specs.Prelude.{if◌then◌else◌, codes, decimal, nat_eq}
use Rattle.std.specs.List.{flat_map}
use Rattle.std.proofs.lemmas.List.{map-append}
use Rattle.std.proofs.lemmas.List.Concat.{flat_map_single}
use Rattle.batch_core.specs.declared.entry.Entry.{Entry}
use Rattle.day_lines.specs.EntryText.{call_text, caller_text, entry_line, entry_lines, numbered, reply_text}
use Rattle.page_tree.specs.Trees.{Trees, Nothing, followed}
use Rattle.day_text.specs.End.{day_end}
use Rattle.day_text.specs.Values.{DayTextList, FrozenSheet}
use Rattle.sheet_reader.specs.Values.{SheetList}
use Rattle.sheet_minutes.specs.Rounds.{ends_round}
use Rattle.sheet_page.specs.declared.part_names.PartNames.{PartNames}
use Rattle.sheet_page.specs.declared.part_names.PartNames.TheVariants.{OfFreeze}
use Rattle.sheet_page.specs.Html.{part_at, round_part, round_parts, rounds_part}
use Rattle.sheet_page.specs.PageReading.{along, text_in, texts_along}
use Rattle.sheet_page.specs.Picture.{full_of}
use Rattle.sheet_page.specs.Promised.{promise_part, told_promise}
use Rattle.sheet_page.specs.Trees.{all, each}
use Rattle.sheet_page.specs.Values.{all_places}
use Rattle.sheet_page.proofs.PageWalks.{behind_nothing, found, found_each, found_followed, found_if, no_part, no_parts}
use Rattle.day_page.specs.CallTable.{calls_part, entry_row}
use Rattle.day_page.specs.DayHtml.{day_heading, day_page}
use Rattle.day_page.specs.EndPart.{end_part}
use Rattle.day_page.specs.Freezes.{freeze_links, freeze_part, freeze_parts, whose}
use Rattle.day_page.specs.Laws.{below, row_said, rows_of, titles_of}
use Rattle.day_page.specs.Lists.{own_first}

-- what a page is for
abbrev pub inside : (places : ℕ) → DayTextList → Trees
inside places v =
    all (
    day_heading ∷ freeze_links (length v.history) v.sheets ∷ calls_part v.history
    ∷ end_part (day_end v.history)
    ∷ freeze_parts places (length v.history) v.sheets ∷ []
    )

pub below_main : (path : List (List ℕ)) (places : ℕ) (v : DayTextList)
    → along (below path) (day_page places v) ≡ along path (inside places v)
below_main path places v =
    let them = along path (inside places v) in
    append-nil ((them ++ []) ++ []) ∙ append-nil (them ++ []) ∙ append-nil them

-- ---- calls

-- four cells, each with nothing after its text
cells_said :
    (a b c d : List ℕ)
    → (a ++ []) ++ 32 ∷ ((b ++ []) ++ 32 ∷ ((c ++ []) ++ 32 ∷ (d ++ [])))
    ≡ ((a ++ 32 ∷ b) ++ 32 ∷ c) ++ 32 ∷ d
cells_said a b c d =
    (λ j. append-nil a j ++ 32 ∷ (append-nil b j ++ 32 ∷ (append-nil c j ++ 32 ∷ append-nil d j)))
    ∙ sym (append_assoc a (32 ∷ b) (32 ∷ (c ++ 32 ∷ d)))
    ∙ sym (append_assoc (a ++ 32 ∷ b) (32 ∷ c) (32 ∷ d))

abbrev row_of : ℕ × Entry → Trees
row_of e = entry_row e.0 e.1

line : (e : ℕ × Entry) → found row_said (codes "tr") [] (row_of e) ≡ entry_line e.0 e.1 ∷ []
line e =
    ap (λ l. l ∷ [])
    (cells_said (decimal e.0) (caller_text e.1.caller) (call_text e.1.call) (reply_text e.1.reply))

abbrev path_of_rows : List (List ℕ)
path_of_rows = codes "div" ∷ codes "table" ∷ codes "tbody" ∷ codes "tr" ∷ []

-- the parts of freezes stand in articles, and in no section beside these
pub no_sections : {X : Type 0} (h : Trees → X) (path : List (List ℕ)) (places calls : ℕ) (sheets : List FrozenSheet)
    → found h (codes "section") path (followed (freeze_parts places calls sheets) Nothing) ≡ []
no_sections {X} h path places calls sheets =
    ap (found h (codes "section") path) (behind_nothing (freeze_parts places calls sheets))
    ∙ found_each h (codes "section") path (freeze_part places calls) (own_first sheets)
    ∙ (λ j. flat_map (λ s. none s j) (own_first sheets))
    ∙ no_parts (own_first sheets)
  where
    none : (s : FrozenSheet) → found h (codes "section") path (freeze_part places calls s) ≡ no_part {X = FrozenSheet} {Y = X} s
    none s = refl

pub rows_said : (places : ℕ) (v : DayTextList) → map row_said (rows_of places v) ≡ entry_lines v.history
rows_said places v =
    let calls = length v.history in
    let rows = each row_of (numbered v.history) in
    let them = along (codes "tr" ∷ []) (followed rows Nothing) in
    let first = ((them ++ []) ++ []) ++ [] in
    let rest =
    along (codes "section" ∷ path_of_rows) (followed (freeze_parts places calls v.sheets) Nothing) in
    ap (map row_said) (below_main (codes "section" ∷ path_of_rows) places v)
    ∙ map-append row_said first rest
    ∙ ap (λ l. map row_said first ++ l) (no_sections row_said path_of_rows places calls v.sheets)
    ∙ append-nil (map row_said first)
    ∙ ap (map row_said) (append-nil ((them ++ []) ++ []) ∙ append-nil (them ++ []) ∙ append-nil them)
    ∙ ap (found row_said (codes "tr") []) (behind_nothing rows)
    ∙ found_each row_said (codes "tr") [] row_of (numbered v.history)
    ∙ (λ j. flat_map (λ e. line e j) (numbered v.history))
    ∙ flat_map_single (λ (e : ℕ × Entry). entry_line e.0 e.1) (numbered v.history)

-- ---- freezes

-- the part of the promise, and those of the rounds of a sheet, have no title of the first rank
no_titles : (names : PartNames) (places : ℕ) (v : SheetList)
    → found text_in (codes "h1") []
    (followed (followed (promise_part places v) (followed (rounds_part names places v)
    (followed (round_parts names places v (full_of v.rows)) Nothing))) Nothing) ≡ []
no_titles names places v =
    let parts = round_parts names places v (full_of v.rows) in
    let rounds = followed (rounds_part names places v) (followed parts Nothing) in
    ap (found text_in (codes "h1") []) (behind_nothing (followed (promise_part places v) rounds))
    ∙ found_followed text_in (codes "h1") [] (promise_part places v) rounds
    ∙ ap (λ l. l ++ found text_in (codes "h1") [] (followed parts Nothing)) (no_promise (nat_eq places 9))
    ∙ ap (found text_in (codes "h1") []) (behind_nothing parts)
    ∙ found_each text_in (codes "h1") [] (part_at names places v (full_of v.rows))
    (all_places (length v.rows))
    ∙ (λ j. flat_map (λ i. none i j) (all_places (length v.rows)))
    ∙ no_parts (all_places (length v.rows))
  where
    no_promise : (b : Bool) → found text_in (codes "h1") [] (if b then told_promise places v else Nothing) ≡ []
    no_promise true = refl
    no_promise false = refl

    either : (b : Bool) → (if b then [] else []) ≡ no_part {X = Bool} {Y = List ℕ} b
    either true = refl
    either false = refl

    none :
        (i : ℕ)
        → found text_in (codes "h1") [] (part_at names places v (full_of v.rows) i)
        ≡ no_part {X = ℕ} {Y = List ℕ} i
    none i =
        found_if text_in (codes "h1") [] (ends_round v.rows i) (round_part names places v (full_of v.rows) i)
        ∙ either (ends_round v.rows i)

pub freezes_said : (places : ℕ) (v : DayTextList)
    → map (texts_along (codes "h1" ∷ [])) (along (below (codes "article" ∷ [])) (day_page places v))
    ≡ map (titles_of (length v.history)) (own_first v.sheets)
freezes_said places v =
    let calls = length v.history in
    let h = texts_along (codes "h1" ∷ []) in
    ap (map h) (below_main (codes "article" ∷ []) places v)
    ∙ ap (found h (codes "article") []) (behind_nothing (freeze_parts places calls v.sheets))
    ∙ found_each h (codes "article") [] (freeze_part places calls) (own_first v.sheets)
    ∙ (λ j. flat_map (λ s. titles s j) (own_first v.sheets))
    ∙ flat_map_single (titles_of calls) (own_first v.sheets)
  where
    titles :
        (s : FrozenSheet)
        → found (texts_along (codes "h1" ∷ [])) (codes "article") [] (freeze_part places (length v.history) s)
        ≡ titles_of (length v.history) s ∷ []
    titles s =
        let n = decimal s.freeze in
        let title =
        λ (l : List ℕ). codes "Freeze "
        ++ (n ++ (whose (length v.history) s.freeze ++ (codes ": what stands after call " ++ l))) in
        ap (λ l. (title (n ++ []) ∷ (s.values.title ++ []) ∷ l) ∷ [])
        (no_titles (OfFreeze s.freeze) places s.values)
        ∙ (λ j. (title (append-nil n j) ∷ append-nil s.values.title j ∷ []) ∷ [])
