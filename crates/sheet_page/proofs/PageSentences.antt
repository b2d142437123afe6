-- The sentences that stand on a page.
use Rattle.std.proofs.Common.{◌≡◌, ◌∙◌, refl, sym, ap, ℕ, ◌+◌, ◌-◌, ◌&&◌, not, Bool, true, false, List, [], ◌∷◌, ◌++◌, map, length}
use Rattle.std.proofs.Common.{append-nil, append_assoc}
use Rattle.std.specs.Prelude.{if◌then◌else◌, codes, decimal, nat_eq, Option, Some, None}
use Rattle.std.specs.Char.{is_ascii}
use Rattle.std.specs.List.{flat_map, list_all, list_any}
use Rattle.std.proofs.lemmas.List.{map-append}
use Rattle.std.proofs.lemmas.List.Concat.{flat_map_single}
use Rattle.page_tree.specs.Trees.{Trees, Nothing, Text, Element, Void, followed}
use Rattle.count_promise.specs.declared.group.Group.{Group}
use Rattle.count_promise.specs.Left.{defeated, first_defeat}
use Rattle.count_promise.specs.Lines.{none_texts}
use Rattle.count_promise.specs.Lots.{chosen_among, is_by_lot, is_in}
use Rattle.count_promise.specs.Quota.{quota_at}
use Rattle.fixed_place.specs.Rounding.{scale}
use Rattle.fixed_place.specs.Text.{text_of}
use Rattle.meek_rule.specs.Row.{Row}
use Rattle.sheet_reader.specs.Values.{SheetList}
use Rattle.sheet_words.specs.Lines.{at_end, joined, sentences_of}
use Rattle.sheet_words.specs.Sentences.{outcome, sentences_at_end}
use Rattle.sheet_minutes.specs.Rounds.{row_at}
use Rattle.sheet_page.specs.PageLaws.{at_nine, called_text}
use Rattle.sheet_page.specs.PageReading.{text_in, along, texts_along}
use Rattle.sheet_page.specs.Promised.{bound_or_none, lot_at, lot_if, lot_item, lot_items, lot_verb, lots_in, no_lot_item, other, other_at}
use Rattle.sheet_page.specs.Promised.{promise_part, told_promise}
use Rattle.sheet_page.specs.SentenceLaws.{bound_said, items_of, last_lines, lines_of, lot_line, lot_lines, lots_of, lots_said, other_said}
use Rattle.sheet_page.specs.SentenceLaws.{promise_lines, rounds_of}
use Rattle.sheet_page.specs.Stretches.{is_of_round}
use Rattle.sheet_page.specs.Told.{end_list, item, outcome_list, result_title, sentences_at, spoken}
use Rattle.sheet_page.specs.Trees.{all, each, isolated, words}
use Rattle.sheet_page.specs.Values.{all_places, name_at}
use Rattle.sheet_page.proofs.PageRounds.{round_by_round}
use Rattle.sheet_page.proofs.PageTexts.{called_apart, in_all_at, in_parts, in_promise}
use Rattle.sheet_page.proofs.PageWalks.{behind_nothing, found, found_each, found_followed, found_if}
use Rattle.sheet_page.proofs.WholeRounds.{of_round}

-- the items of a list
abbrev listed : Trees → List (List ℕ)
listed = found text_in (codes "li") []

item_text : (texts : List (List ℕ)) → text_in (all (map spoken texts)) ≡ joined texts
item_text [] = refl
item_text (text ∷ texts) = by (list_all is_ascii text) ∙ ap (λ l. text ++ l) (item_text texts)
  where
    by : (b : Bool) → text_in (followed (if b then words text else isolated text) (all (map spoken texts)))
        ≡ text ++ text_in (all (map spoken texts))
    by true = refl
    by false = ap (λ l. l ++ text_in (all (map spoken texts))) (append-nil text)

item_texts : (sentences : List (List (List ℕ))) → listed (each item sentences) ≡ map joined sentences
item_texts sentences =
    found_each text_in (codes "li") [] item sentences
    ∙ (λ j. flat_map (λ texts. item_text texts j ∷ []) sentences)
    ∙ flat_map_single joined sentences

list_texts : (sentences : List (List (List ℕ))) → listed (followed (each item sentences) Nothing) ≡ map joined sentences
list_texts sentences = ap listed (behind_nothing (each item sentences)) ∙ item_texts sentences

-- the lines of each of some items
map-each : {Y : Type 0} (s : Y → List (List (List ℕ))) (xs : List Y)
    → flat_map (λ x. map joined (s x)) xs ≡ map joined (flat_map s xs)
map-each s [] = refl
map-each s (x ∷ xs) =
    ap (λ l. map joined (s x) ++ l) (map-each s xs) ∙ sym (map-append joined (s x) (flat_map s xs))

-- ---- of a round

abbrev decided : (places : ℕ) (v : SheetList) (last : ℕ) → List (List (List ℕ))
decided places v last = of_round v.rows (λ i. sentences_of places v (row_at v.rows i)) last

round_list : (places : ℕ) (v : SheetList) (last : ℕ) → listed (each (sentences_at places v last) (all_places (last + 1))) ≡ map joined (decided places v last)
round_list places v last =
    found_each text_in (codes "li") [] (sentences_at places v last) (all_places (last + 1))
    ∙ (λ j. flat_map (λ i. here i j) (all_places (last + 1)))
    ∙ map-each (λ i. if is_of_round v.rows last i then sentences_of places v (row_at v.rows i) else []) (all_places (last + 1))
  where
    by : (b : Bool) (sentences : List (List (List ℕ)))
        → (if b then map joined sentences else []) ≡ map joined (if b then sentences else [])
    by true sentences = refl
    by false sentences = refl

    here : (i : ℕ) → listed (sentences_at places v last i)
        ≡ map joined (if is_of_round v.rows last i then sentences_of places v (row_at v.rows i) else [])
    here i =
        let them = sentences_of places v (row_at v.rows i) in
        found_if text_in (codes "li") [] (is_of_round v.rows last i) (each item them)
        ∙ ap (λ l. if is_of_round v.rows last i then l else []) (item_texts them)
        ∙ by (is_of_round v.rows last i) them

-- ---- of the end

end_texts : (v : SheetList) →
    map text_in (along (codes "li" ∷ []) (followed (each item (map at_end (sentences_at_end v))) Nothing)
    ++ (along (codes "li" ∷ []) (followed (each item (map (outcome v) (all_places (length v.names)))) Nothing) ++ []))
    ≡ last_lines v
end_texts v =
    let ends = map at_end (sentences_at_end v) in
    let outcomes = map (outcome v) (all_places (length v.names)) in
    let first = along (codes "li" ∷ []) (followed (each item ends) Nothing) in
    let second = along (codes "li" ∷ []) (followed (each item outcomes) Nothing) in
    ap (λ l. map text_in (first ++ l)) (append-nil second)
    ∙ map-append text_in first second
    ∙ ap (λ l. l ++ map text_in second) (list_texts ends)
    ∙ ap (λ l. map joined ends ++ l) (list_texts outcomes)
    ∙ sym (map-append joined ends outcomes)

-- ---- of the promise

-- the text of trees after one another
text_followed : (trees others : Trees) → text_in (followed trees others) ≡ text_in trees ++ text_in others
text_followed Nothing others = refl
text_followed (Text text behind) others =
    ap (λ l. text ++ l) (text_followed behind others) ∙ sym (append_assoc text (text_in behind) (text_in others))
text_followed (Element name attributes within behind) others =
    ap (λ l. text_in within ++ l) (text_followed behind others)
    ∙ sym (append_assoc (text_in within) (text_in behind) (text_in others))
text_followed (Void name attributes behind) others = text_followed behind others

text_each : {X : Type 0} (tree : X → Trees) (xs : List X) → text_in (each tree xs) ≡ flat_map (λ x. text_in (tree x)) xs
text_each tree [] = refl
text_each tree (x ∷ xs) = text_followed (tree x) (each tree xs) ∙ ap (λ l. text_in (tree x) ++ l) (text_each tree xs)

module _ (v : SheetList) (row : Row) (p : ℕ) where
  others_said : (group : Group) → text_in (each (other_at v row group p) (all_places (length row.states)))
      ≡ flat_map (other_said v row group p) (all_places (length row.states))
  others_said group =
      text_each (other_at v row group p) (all_places (length row.states))
      ∙ (λ j. flat_map (λ q. by q (is_in row group q && not (nat_eq q p)) j) (all_places (length row.states)))
    where
      by : (q : ℕ) (b : Bool) → text_in (if b then other (name_at v q) (q + 1) else Nothing)
          ≡ (if b then codes ", and not " ++ called_text v q else [])
      by q true =
          ap (λ l. codes ", and not " ++ l) (called_apart (name_at v q) (q + 1) [] ∙ append-nil (called_text v q))
      by q false = refl

  lot_text : (group : Group) → listed (lot_item v row p group) ≡ lot_line v row p group ∷ []
  lot_text group =
      let others = each (other_at v row group p) (all_places (length row.states)) in
      let said = flat_map (other_said v row group p) (all_places (length row.states)) in
      ap (λ l. (codes "Round " ++ (decimal row.round ++ (codes ", iteration " ++ (decimal row.iteration
      ++ (codes ": a lot decided that " ++ l))))) ∷ []) (
      ap (λ l. (name_at v p ++ []) ++ (codes " (" ++ (decimal (p + 1) ++ (codes ")" ++ (lot_verb group ++ l)))))
      (text_followed others (words (codes ".")) ∙ ap (λ l. l ++ codes ".") (others_said group))
      ∙ called_apart (name_at v p) (p + 1) (lot_verb group ++ (said ++ codes ".")))

  lot_texts : (among : Option Group) → listed (lot_if v row p among) ≡ lot_lines v row p among
  lot_texts None = refl
  lot_texts (Some group) = lot_text group

lots_text : (v : SheetList) → listed (lot_items v) ≡ lots_said v
lots_text v = by (list_any is_by_lot v.rows)
  where
    in_row : (row : Row) → listed (lots_in v row) ≡ lots_of v row
    in_row row =
        found_each text_in (codes "li") [] (lot_at v row) (all_places (length row.states))
        ∙ (λ j. flat_map (λ p. lot_texts v row p (chosen_among row p) j) (all_places (length row.states)))

    by : (b : Bool) → listed (if b then each (lots_in v) v.rows else no_lot_item)
        ≡ (if b then flat_map (lots_of v) v.rows else codes "No lot decided anything." ∷ [])
    by true = found_each text_in (codes "li") [] (lots_in v) v.rows ∙ (λ j. flat_map (λ row. in_row row j) v.rows)
    by false = refl

bound_text : (places : ℕ) (v : SheetList) (great : Option Row)
    → listed (followed (bound_or_none places v great) Nothing) ≡ bound_said places v great ∷ []
bound_text places v None = refl
bound_text places v (Some row) =
    let number = defeated row.step in
    ap (λ l. (codes "Not promised: in round " ++ (decimal row.round ++ (codes ", iteration " ++ (decimal row.iteration
    ++ (codes ", " ++ l))))) ∷ [])
    (called_apart (name_at v (number - 1)) number (joined (codes " was defeated while " ∷ text_of places row.surplus
    ∷ codes " votes of surplus were not passed on. " ∷ none_texts (text_of places (quota_at places v)))))

-- ---- of a page

-- what is in the part of the result
abbrev result_within : SheetList → Trees
result_within v = all (result_title ∷ end_list v ∷ outcome_list v ∷ [])

abbrev items_in : Trees → List (List ℕ)
items_in = texts_along (codes "ul" ∷ codes "li" ∷ [])

promise_told : (places : ℕ) (v : SheetList) → found items_in (codes "section") [] (told_promise places v) ≡ promise_lines places v ∷ []
promise_told places v =
    let lots = lot_items v in
    let bound = followed (bound_or_none places v (first_defeat (scale places) v.rows)) Nothing in
    ap (λ l. map text_in l ∷ []) (append-nil (along (codes "li" ∷ []) (followed lots bound)))
    ∙ ap (λ l. l ∷ []) (found_followed text_in (codes "li") [] lots bound
    ∙ ap (λ l. l ++ listed bound) (lots_text v)
    ∙ ap (λ l. lots_said v ++ l) (bound_text places v (first_defeat (scale places) v.rows)))

pub page_items : (places : ℕ) (v : SheetList) →
    items_of places v
    ≡ [] ∷ last_lines v ∷ (at_nine places (promise_lines places v) ++ [] ∷ map (lines_of places v) (rounds_of v.rows))
page_items places v =
    let promised = in_parts places items_in [] v (promise_part places v) in
    in_all_at places items_in [] v (λ i. map joined (decided places v i) ∷ []) (λ full i. here i)
    ∙ ap (λ l. [] ∷ items_in (result_within v) ∷ (promised ++ [] ∷ l)) (round_by_round (sentences_of places v) (map joined) v.rows
    ∙ sym (map_twice (flat_map (sentences_of places v)) (rounds_of v.rows)))
    ∙ ap (λ l. [] ∷ l ∷ (promised ++ [] ∷ map (lines_of places v) (rounds_of v.rows))) (end_texts v)
    ∙ ap (λ l. [] ∷ last_lines v ∷ (l ++ [] ∷ map (lines_of places v) (rounds_of v.rows)))
    (in_promise places items_in [] v (promise_lines places v) (promise_told places v))
  where
    map_twice : {Y : Type 0} (s : Y → List (List (List ℕ))) (xs : List Y) → map (λ x. map joined (s x)) xs ≡ map (map joined) (map s xs)
    map_twice s [] = refl
    map_twice s (x ∷ xs) = ap (λ l. map joined (s x) ∷ l) (map_twice s xs)

    here : (i : ℕ) →
        map text_in (along (codes "li" ∷ []) (followed (each (sentences_at places v i) (all_places (i + 1))) Nothing) ++ []) ∷ []
        ≡ map joined (decided places v i) ∷ []
    here i =
        let trees = each (sentences_at places v i) (all_places (i + 1)) in
        ap (λ l. map text_in l ∷ []) (append-nil (along (codes "li" ∷ []) (followed trees Nothing)))
        ∙ ap (λ t. listed t ∷ []) (behind_nothing trees)
        ∙ ap (λ l. l ∷ []) (round_list places v i)
