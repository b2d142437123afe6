-- What is on a page of its sheet.
use Rattle.std.proofs.Common.{◌≡◌, ◌∙◌, refl, sym, ap, ℕ, ◌+◌, Bool, true, false, List, [], ◌∷◌, ◌++◌}
use Rattle.std.proofs.Common.{map, length, append-nil, append_assoc}
use Rattle.std.specs.Prelude.{if◌then◌else◌, codes, decimal, nat_eq}
use Rattle.std.specs.List.{filter, flat_map}
use Rattle.std.proofs.lemmas.List.{map-append}
use Rattle.std.proofs.lemmas.List.Concat.{flat_map_single}
use Rattle.lot_order.specs.Flags.{mark_at}
use Rattle.meek_rule.specs.Row.{Row}
use Rattle.page_tree.specs.Trees.{Trees, Nothing, followed}
use Rattle.sheet_reader.specs.Values.{SheetList}
use Rattle.sheet_minutes.specs.Rounds.{ends_round, row_at}
use Rattle.sheet_page.specs.declared.part_names.PartNames.TheVariants.{Alone}
use Rattle.sheet_page.specs.Html.{elected_item, elected_in, in_round, at_end, is_seated, seated_item}
use Rattle.sheet_page.specs.Html.{elected_part, rounds_part}
use Rattle.sheet_page.specs.Iterations.{iteration, iteration_at, iterations}
use Rattle.sheet_page.specs.Links.{link_at, link_to, round_link}
use Rattle.sheet_page.specs.Html.{round_part, part_at, round_parts, page}
use Rattle.sheet_page.specs.PageLaws.{at_nine, below, elected_line, seated_line, marked_lines, ends_of}
use Rattle.sheet_page.specs.PageReading.{text_in, along, texts_along}
use Rattle.sheet_page.specs.Picture.{full_of}
use Rattle.sheet_page.specs.Promised.{promise_part, told_promise}
use Rattle.sheet_page.specs.RoundEnds.{settled_at}
use Rattle.sheet_page.specs.Stretches.{is_of_round}
use Rattle.sheet_page.specs.Told.{result_part}
use Rattle.sheet_page.specs.Trees.{each}
use Rattle.sheet_page.specs.Values.{all_places, name_at}
use Rattle.sheet_page.proofs.PageWalks.{no_part, no_parts, picked, behind_nothing, found, found_followed}
use Rattle.sheet_page.proofs.PageWalks.{found_each, found_if}
use Rattle.sheet_page.proofs.PageWalks.{at_ends}

-- ---- the parts of a page

module _ (places : ℕ) {X : Type 0} (h : Trees → X) (path : List (List ℕ)) (v : SheetList) where
  abbrev pub in_parts : Trees → List X
  in_parts = found h (codes "section") path

  -- the parts of rounds, by what a path leads to in the part of the round that ends at each place
  in_rounds :
      (g : ℕ → List X) → ((full i : ℕ) → in_parts (round_part Alone places v full i) ≡ g i)
      → in_parts (round_parts Alone places v (full_of v.rows))
      ≡ flat_map (λ i. if ends_round v.rows i then g i else []) (all_places (length v.rows))
  in_rounds g is =
      found_each h (codes "section") path (part_at Alone places v (full_of v.rows)) (all_places (length v.rows))
      ∙ (λ j. flat_map (λ i. here i j) (all_places (length v.rows)))
    where
      here : (i : ℕ) → in_parts (part_at Alone places v (full_of v.rows) i) ≡ (if ends_round v.rows i then g i else [])
      here i =
          found_if h (codes "section") path (ends_round v.rows i) (round_part Alone places v (full_of v.rows) i)
          ∙ ap (λ l. if ends_round v.rows i then l else []) (is (full_of v.rows) i)

  -- a whole page
  pub in_all_at :
      (g : ℕ → List X) → ((full i : ℕ) → in_parts (round_part Alone places v full i) ≡ g i)
      → map h (along (below path) (page places v))
      ≡ in_parts (elected_part v) ++ (in_parts (result_part v) ++ (in_parts (promise_part places v)
      ++ (in_parts (rounds_part Alone places v) ++ flat_map (λ i. if ends_round v.rows i then g i else []) (all_places (length v.rows)))))
  in_all_at g is =
      let full = full_of v.rows in
      let rounds = followed (rounds_part Alone places v) (followed (round_parts Alone places v full) Nothing) in
      let promise = followed (promise_part places v) rounds in
      let parts = followed (elected_part v) (followed (result_part v) promise) in
      let them = along (codes "section" ∷ path) parts in
      ap (map h) (append-nil ((them ++ []) ++ []) ∙ append-nil (them ++ []) ∙ append-nil them)
      ∙ found_followed h (codes "section") path (elected_part v) (followed (result_part v) promise)
      ∙ ap (λ l. in_parts (elected_part v) ++ l) (
      found_followed h (codes "section") path (result_part v) promise
      ∙ ap (λ l. in_parts (result_part v) ++ l) (
      found_followed h (codes "section") path (promise_part places v) rounds
      ∙ ap (λ l. in_parts (promise_part places v) ++ l) (
      found_followed h (codes "section") path (rounds_part Alone places v) (followed (round_parts Alone places v full) Nothing)
      ∙ ap (λ l. in_parts (rounds_part Alone places v) ++ l) (ap in_parts (behind_nothing (round_parts Alone places v full)) ∙ in_rounds g is))))

  -- where the last iteration of a round says it
  pub in_all :
      (g : Row → List X) → ((full i : ℕ) → in_parts (round_part Alone places v full i) ≡ g (settled_at v i))
      → map h (along (below path) (page places v))
      ≡ in_parts (elected_part v) ++ (in_parts (result_part v) ++ (in_parts (promise_part places v)
      ++ (in_parts (rounds_part Alone places v) ++ flat_map g (ends_of v))))
  in_all g is =
      in_all_at (λ i. g (settled_at v i)) is
      ∙ ap (λ l. in_parts (elected_part v) ++ (in_parts (result_part v) ++ (in_parts (promise_part places v)
      ++ (in_parts (rounds_part Alone places v) ++ l)))) (at_ends g v.rows v.last)

  -- the part of the promise, where it has one thing, and where it has none
  pub in_promise :
      (said : X) → in_parts (told_promise places v) ≡ said ∷ [] → in_parts (promise_part places v) ≡ at_nine places said
  in_promise said told = by (nat_eq places 9)
    where
      by : (b : Bool) → in_parts (if b then told_promise places v else Nothing) ≡ (if b then said ∷ [] else [])
      by true = told
      by false = refl

  no_promise : in_parts (told_promise places v) ≡ [] → in_parts (promise_part places v) ≡ []
  no_promise told = by (nat_eq places 9)
    where
      by : (b : Bool) → in_parts (if b then told_promise places v else Nothing) ≡ []
      by true = told
      by false = refl

  -- a page in whose part of the promise the path leads to nothing
  pub in_page_at :
      (g : ℕ → List X) → ((full i : ℕ) → in_parts (round_part Alone places v full i) ≡ g i)
      → in_parts (told_promise places v) ≡ []
      → map h (along (below path) (page places v))
      ≡ in_parts (elected_part v) ++ (in_parts (result_part v)
      ++ (in_parts (rounds_part Alone places v) ++ flat_map (λ i. if ends_round v.rows i then g i else []) (all_places (length v.rows))))
  in_page_at g is none =
      in_all_at g is
      ∙ ap (λ l. in_parts (elected_part v) ++ (in_parts (result_part v) ++ (l ++ (in_parts (rounds_part Alone places v)
      ++ flat_map (λ i. if ends_round v.rows i then g i else []) (all_places (length v.rows)))))) (no_promise none)

  pub in_page :
      (g : Row → List X) → ((full i : ℕ) → in_parts (round_part Alone places v full i) ≡ g (settled_at v i))
      → in_parts (told_promise places v) ≡ []
      → map h (along (below path) (page places v))
      ≡ in_parts (elected_part v) ++ (in_parts (result_part v) ++ (in_parts (rounds_part Alone places v) ++ flat_map g (ends_of v)))
  in_page g is none =
      in_all g is
      ∙ ap (λ l. in_parts (elected_part v) ++ (in_parts (result_part v)
      ++ (l ++ (in_parts (rounds_part Alone places v) ++ flat_map g (ends_of v))))) (no_promise none)

-- ---- who is elected

abbrev items : Trees → List (List ℕ)
items = found text_in (codes "li") []

-- a candidate with its number, and what is after it
pub called_apart : (name : List ℕ) (number : ℕ) (behind : List ℕ)
    → (name ++ []) ++ (codes " (" ++ (decimal number ++ (codes ")" ++ behind)))
    ≡ (name ++ (codes " (" ++ (decimal number ++ codes ")"))) ++ behind
called_apart name number behind =
    ap (λ l. l ++ (codes " (" ++ (decimal number ++ (codes ")" ++ behind)))) (append-nil name)
    ∙ ap (λ l. name ++ (codes " (" ++ l)) (sym (append_assoc (decimal number) (codes ")") behind))
    ∙ sym (append_assoc name (codes " (" ++ (decimal number ++ codes ")")) behind)

-- the items of an iteration
marked : (v : SheetList) (row : Row) → items (elected_in v row) ≡ marked_lines v row
marked v row =
    found_each text_in (codes "li") [] (elected_item v row) (all_places (length v.names))
    ∙ (λ j. flat_map (λ p. here p j) (all_places (length v.names)))
    ∙ picked (mark_at row.elected) (elected_line v row.round) (all_places (length v.names))
  where
    here : (p : ℕ) → items (elected_item v row p) ≡ (if mark_at row.elected p then elected_line v row.round p ∷ [] else [])
    here p =
        found_if text_in (codes "li") [] (mark_at row.elected p) (in_round (name_at v p) (p + 1) row.round)
        ∙ ap (λ l. if mark_at row.elected p then l ∷ [] else [])
        (called_apart (name_at v p) (p + 1) (codes ": elected in round " ++ (decimal row.round ++ [])))

left_seats : (v : SheetList) → items (each (seated_item v) (all_places (length v.names)))
    ≡ map (seated_line v) (filter (is_seated v) (all_places (length v.names)))
left_seats v =
    found_each text_in (codes "li") [] (seated_item v) (all_places (length v.names))
    ∙ (λ j. flat_map (λ p. here p j) (all_places (length v.names)))
    ∙ picked (is_seated v) (seated_line v) (all_places (length v.names))
  where
    here : (p : ℕ) → items (seated_item v p) ≡ (if is_seated v p then seated_line v p ∷ [] else [])
    here p =
        found_if text_in (codes "li") [] (is_seated v p) (at_end (name_at v p) (p + 1))
        ∙ ap (λ l. if is_seated v p then l ∷ [] else [])
        (called_apart (name_at v p) (p + 1) (codes ": elected at the end, to a seat that was left"))

pub elected_items : (places : ℕ) (v : SheetList) →
    texts_along (below (codes "ol" ∷ codes "li" ∷ [])) (page places v)
    ≡ flat_map (marked_lines v) v.rows ++ map (seated_line v) (filter (is_seated v) (all_places (length v.names)))
elected_items places v =
    let rows = each (elected_in v) v.rows in
    let seats = each (seated_item v) (all_places (length v.names)) in
    let list = followed rows (followed seats Nothing) in
    let marks = flat_map (marked_lines v) v.rows in
    let left = map (seated_line v) (filter (is_seated v) (all_places (length v.names))) in
    in_page places text_in (codes "ol" ∷ codes "li" ∷ []) v no_part (λ full i. refl) refl
    ∙ ap (λ l. in_parts places text_in (codes "ol" ∷ codes "li" ∷ []) v (elected_part v) ++ l) (no_parts (ends_of v))
    ∙ append-nil (in_parts places text_in (codes "ol" ∷ codes "li" ∷ []) v (elected_part v))
    ∙ ap (map text_in) (append-nil (along (codes "li" ∷ []) list ++ []) ∙ append-nil (along (codes "li" ∷ []) list))
    ∙ found_followed text_in (codes "li") [] rows (followed seats Nothing)
    ∙ ap (λ l. l ++ items (followed seats Nothing))
    (found_each text_in (codes "li") [] (elected_in v) v.rows ∙ (λ j. flat_map (λ row. marked v row j) v.rows))
    ∙ ap (λ l. marks ++ l) (ap items (behind_nothing seats) ∙ left_seats v)

-- ---- links to rounds

-- the link to a round, if it ends at this place
link_said : (v : SheetList) (i : ℕ)
    → items (link_at Alone v i) ≡ (if ends_round v.rows i then (codes "Round " ++ decimal (settled_at v i).round) ∷ [] else [])
link_said v i =
    let number = decimal (row_at v.rows i).round in
    found_if text_in (codes "li") [] (ends_round v.rows i) (round_link (link_to Alone i) (row_at v.rows i).round)
    ∙ ap (λ l. if ends_round v.rows i then (codes "Round " ++ l) ∷ [] else []) (append-nil (number ++ []) ∙ append-nil number)

pub round_links : (places : ℕ) (v : SheetList) →
    texts_along (codes "html" ∷ codes "body" ∷ codes "main" ∷ codes "nav" ∷ codes "ul" ∷ codes "li" ∷ []) (page places v)
    ≡ map (λ row. codes "Round " ++ decimal row.round) (ends_of v)
round_links places v =
    let path = codes "ul" ∷ codes "li" ∷ [] in
    let links = each (link_at Alone v) (all_places (length v.rows)) in
    let first = along (codes "li" ∷ []) (followed links Nothing) in
    let rest = followed (round_parts Alone places v (full_of v.rows)) Nothing in
    let rounds = followed (rounds_part Alone places v) rest in
    let behind = along (codes "nav" ∷ path) (followed (promise_part places v) rounds) in
    let them = (first ++ []) ++ behind in
    ap (map text_in) (append-nil ((them ++ []) ++ []) ∙ append-nil (them ++ []) ∙ append-nil them)
    ∙ map-append text_in (first ++ []) behind
    ∙ ap (λ l. map text_in (first ++ []) ++ l) (found_followed text_in (codes "nav") path (promise_part places v) rounds
    ∙ ap (λ l. l ++ found text_in (codes "nav") path rest) (no_link (nat_eq places 9))
    ∙ ap (found text_in (codes "nav") path) (behind_nothing (round_parts Alone places v (full_of v.rows)))
    ∙ found_each text_in (codes "nav") path (part_at Alone places v (full_of v.rows)) (all_places (length v.rows))
    ∙ (λ j. flat_map (λ i. none i j) (all_places (length v.rows)))
    ∙ no_parts (all_places (length v.rows)))
    ∙ append-nil (map text_in (first ++ []))
    ∙ ap (map text_in) (append-nil first)
    ∙ ap items (behind_nothing links)
    ∙ found_each text_in (codes "li") [] (link_at Alone v) (all_places (length v.rows))
    ∙ (λ j. flat_map (λ i. link_said v i j) (all_places (length v.rows)))
    ∙ at_ends (λ row. (codes "Round " ++ decimal row.round) ∷ []) v.rows v.last
    ∙ flat_map_single (λ (row : Row). codes "Round " ++ decimal row.round) (ends_of v)
  where
    either : (b : Bool) → (if b then [] else []) ≡ no_part {X = Bool} {Y = List ℕ} b
    either true = refl
    either false = refl

    no_link : (b : Bool) → found text_in (codes "nav") (codes "ul" ∷ codes "li" ∷ []) (if b then told_promise places v else Nothing) ≡ []
    no_link true = refl
    no_link false = refl

    none : (i : ℕ) → found text_in (codes "nav") (codes "ul" ∷ codes "li" ∷ []) (part_at Alone places v (full_of v.rows) i) ≡ no_part {X = ℕ} {Y = List ℕ} i
    none i =
        found_if text_in (codes "nav") (codes "ul" ∷ codes "li" ∷ []) (ends_round v.rows i) (round_part Alone places v (full_of v.rows) i)
        ∙ either (ends_round v.rows i)

-- ---- titles of rounds

pub round_titles : (places : ℕ) (v : SheetList) →
    texts_along (below (codes "h2" ∷ [])) (page places v)
    ≡ codes "Elected" ∷ codes "Result" ∷ (at_nine places (codes "What this count promises")
    ++ codes "Votes at the end of each round" ∷ map (λ row. codes "Round " ++ decimal row.round) (ends_of v))
round_titles places v =
    let title = codes "What this count promises" in
    let of_rounds = flat_map (λ row. (codes "Round " ++ decimal row.round) ∷ []) (ends_of v) in
    in_all places text_in (codes "h2" ∷ []) v (λ row. (codes "Round " ++ decimal row.round) ∷ [])
    (λ full i. ap (λ l. (codes "Round " ++ l) ∷ []) (append-nil (decimal (row_at v.rows i).round)))
    ∙ ap (λ l. codes "Elected" ∷ codes "Result" ∷ (l ++ codes "Votes at the end of each round" ∷ of_rounds))
    (in_promise places text_in (codes "h2" ∷ []) v title refl)
    ∙ ap (λ l. codes "Elected" ∷ codes "Result" ∷ (at_nine places title ++ codes "Votes at the end of each round" ∷ l))
    (flat_map_single (λ (row : Row). codes "Round " ++ decimal row.round) (ends_of v))

pub folded_titles : (places : ℕ) (v : SheetList) →
    texts_along (below (codes "details" ∷ codes "summary" ∷ [])) (page places v)
    ≡ map (λ row. codes "Iterations of round " ++ decimal row.round) (ends_of v)
folded_titles places v =
    in_page places text_in (codes "details" ∷ codes "summary" ∷ []) v
    (λ row. (codes "Iterations of round " ++ decimal row.round) ∷ []) (λ full i. here i) refl
    ∙ flat_map_single (λ (row : Row). codes "Iterations of round " ++ decimal row.round) (ends_of v)
  where
    either : (b : Bool) → (if b then [] else []) ≡ no_part {X = Bool} {Y = List ℕ} b
    either true = refl
    either false = refl

    none : (last i : ℕ) → found text_in (codes "summary") [] (iteration_at places v last i) ≡ no_part {X = ℕ} {Y = List ℕ} i
    none last i =
        found_if text_in (codes "summary") [] (is_of_round v.rows last i) (iteration places v (row_at v.rows i))
        ∙ either (is_of_round v.rows last i)

    here : (i : ℕ) →
        (codes "Iterations of round " ++ (decimal (row_at v.rows i).round ++ []))
        ∷ map text_in ((along (codes "summary" ∷ []) (followed (iterations places v i) Nothing) ++ []) ++ [])
        ≡ (codes "Iterations of round " ++ decimal (row_at v.rows i).round) ∷ []
    here i =
        let title = codes "Iterations of round " ++ (decimal (row_at v.rows i).round ++ []) in
        let them = along (codes "summary" ∷ []) (followed (iterations places v i) Nothing) in
        ap (λ l. title ∷ map text_in l) (append-nil (them ++ []) ∙ append-nil them)
        ∙ ap (λ l. title ∷ l) (ap (found text_in (codes "summary") []) (behind_nothing (iterations places v i))
        ∙ found_each text_in (codes "summary") [] (iteration_at places v i) (all_places (i + 1))
        ∙ (λ j. flat_map (λ k. none i k j) (all_places (i + 1)))
        ∙ no_parts (all_places (i + 1)))
        ∙ ap (λ l. (codes "Iterations of round " ++ l) ∷ []) (append-nil (decimal (row_at v.rows i).round))
