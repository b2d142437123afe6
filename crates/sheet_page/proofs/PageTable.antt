-- The table of votes on a page.
use Rattle.std.proofs.Common.{◌≡◌, ◌∙◌, refl, sym, ap, ℕ, ◌+◌, ◌-◌, Bool, true, false, List, [], ◌∷◌, ◌++◌}
use Rattle.std.proofs.Common.{map, length, take, drop, append-nil, append_assoc}
use Rattle.std.specs.Prelude.{if◌then◌else◌, codes, decimal, slice_index}
use Rattle.std.specs.List.{flat_map}
use Rattle.std.proofs.lemmas.List.{take-append-drop}
use Rattle.std.proofs.lemmas.List.Concat.{flat_map_single}
use Rattle.candidate_roll.specs.State.{state_at}
use Rattle.fixed_place.specs.Text.{text_of}
use Rattle.meek_rule.specs.Row.{Row}
use Rattle.page_tree.specs.Trees.{Trees, Nothing, followed}
use Rattle.sheet_text.specs.Lines.{state_word}
use Rattle.sheet_reader.specs.Values.{SheetList}
use Rattle.sheet_minutes.specs.declared.entry.Entry.{Entry}
use Rattle.sheet_minutes.specs.declared.entry.Entry.TheVariants.{Round, Quota, LeftOver, Candidate}
use Rattle.sheet_minutes.specs.Rounds.{ends_round, left_over, row_at}
use Rattle.sheet_page.specs.declared.part_names.PartNames.TheVariants.{Alone}
use Rattle.sheet_page.specs.Html.{page, rounds_part}
use Rattle.sheet_page.specs.Links.{link_to}
use Rattle.sheet_page.specs.PageLaws.{below, called_text, cells_of, ends_of, line_texts, vote_text}
use Rattle.sheet_page.specs.PageReading.{text_in, along, texts_along}
use Rattle.sheet_page.specs.RoundEnds.{settled_at}
use Rattle.sheet_page.specs.RoundTable.{amount_cell, candidate_head, candidate_row, cell_at, cells, first_head, left_row, line_head}
use Rattle.sheet_page.specs.RoundTable.{quota_row, round_cell, round_head, vote_cell}
use Rattle.sheet_page.specs.Trees.{all, each}
use Rattle.sheet_page.specs.Values.{all_places, name_at}
use Rattle.sheet_page.proofs.PageTexts.{in_page, in_parts}
use Rattle.sheet_page.proofs.PageWalks.{no_part, no_parts, behind_nothing, found, found_each, found_if, at_ends}

-- ---- what a line says of the rounds

module _ (places : ℕ) (name : List ℕ) (v : SheetList) (entry : Entry) where
  -- the cells of a line, after its head
  abbrev behind : Trees
  behind = followed (cells Alone places v entry) Nothing

  cells_found : texts_along (name ∷ []) behind ≡ flat_map (λ i. found text_in name [] (cell_at Alone places v entry i)) (all_places (length v.rows))
  cells_found =
      ap (found text_in name []) (behind_nothing (cells Alone places v entry))
      ∙ found_each text_in name [] (cell_at Alone places v entry) (all_places (length v.rows))

  -- a cell of this name has what is said of its round
  in_cells : (g : Row → List ℕ) → ((i : ℕ) → texts_along (name ∷ []) (round_cell Alone places v entry i) ≡ g (settled_at v i) ∷ [])
      → texts_along (name ∷ []) behind ≡ map g (ends_of v)
  in_cells g is =
      cells_found
      ∙ (λ j. flat_map (λ i. here i j) (all_places (length v.rows)))
      ∙ at_ends (λ row. g row ∷ []) v.rows v.last
      ∙ flat_map_single g (ends_of v)
    where
      here : (i : ℕ) → found text_in name [] (cell_at Alone places v entry i) ≡ (if ends_round v.rows i then g (settled_at v i) ∷ [] else [])
      here i =
          found_if text_in name [] (ends_round v.rows i) (round_cell Alone places v entry i)
          ∙ ap (λ l. if ends_round v.rows i then l else []) (is i)

  -- no cell has this name
  no_cells : ((i : ℕ) → texts_along (name ∷ []) (round_cell Alone places v entry i) ≡ []) → texts_along (name ∷ []) behind ≡ []
  no_cells is =
      cells_found
      ∙ (λ j. flat_map (λ i. here i j) (all_places (length v.rows)))
      ∙ no_parts (all_places (length v.rows))
    where
      either : (b : Bool) → (if b then [] else []) ≡ no_part {X = Bool} {Y = List ℕ} b
      either true = refl
      either false = refl

      here : (i : ℕ) → found text_in name [] (cell_at Alone places v entry i) ≡ no_part {X = ℕ} {Y = List ℕ} i
      here i =
          found_if text_in name [] (ends_round v.rows i) (round_cell Alone places v entry i)
          ∙ ap (λ l. if ends_round v.rows i then l else []) (is i)
          ∙ either (ends_round v.rows i)

-- ---- amounts

-- both parts of a text, and what is after it
two_parts : (text : List ℕ) (n : ℕ) (behind : List ℕ) → take n text ++ ((drop n text ++ []) ++ behind) ≡ text ++ behind
two_parts text n behind =
    ap (λ l. take n text ++ (l ++ behind)) (append-nil (drop n text))
    ∙ sym (append_assoc (take n text) (drop n text) behind)
    ∙ ap (λ l. l ++ behind) (take-append-drop n text)

amount_said : (places amount : ℕ) → texts_along (codes "td" ∷ []) (amount_cell places amount) ≡ text_of places amount ∷ []
amount_said places amount =
    let text = text_of places amount in
    ap (λ l. l ∷ []) (two_parts text (length text - (places - 2)) [] ∙ append-nil text)

vote_said : (places : ℕ) (row : Row) (p : ℕ) → texts_along (codes "td" ∷ []) (vote_cell places row p) ≡ vote_text places row p ∷ []
vote_said places row p =
    let text = text_of places (slice_index row.votes p) in
    let word = state_word (state_at row.states p) in
    ap (λ l. l ∷ []) (two_parts text (length text - (places - 2)) (codes " " ++ ((word ++ []) ++ []))
    ∙ ap (λ l. text ++ (codes " " ++ l)) (append-nil (word ++ []) ∙ append-nil word))

-- ---- the lines

-- what is in the lines of the quotas, of what is left, and of a candidate
abbrev quotas_within : (places : ℕ) → SheetList → Trees
quotas_within places v = all (line_head (codes "Quota") ∷ cells Alone places v Quota ∷ [])

abbrev left_within : (places : ℕ) → SheetList → Trees
left_within places v = all (line_head (codes "On no candidate") ∷ cells Alone places v LeftOver ∷ [])

abbrev votes_within : (places : ℕ) → SheetList → (p : ℕ) → Trees
votes_within places v p = all (candidate_head (name_at v p) (p + 1) ∷ cells Alone places v (Candidate p) ∷ [])

table_lines : (places : ℕ) {X : Type 0} (h : Trees → X) (v : SheetList) →
    map h (along (below (codes "div" ∷ codes "table" ∷ codes "tbody" ∷ codes "tr" ∷ [])) (page places v))
    ≡ h (quotas_within places v) ∷ h (left_within places v) ∷ map (λ p. h (votes_within places v p)) (all_places (length v.names))
table_lines places h v =
    let path = codes "div" ∷ codes "table" ∷ codes "tbody" ∷ codes "tr" ∷ [] in
    let lines = each (candidate_row Alone places v) (all_places (length v.names)) in
    let them = along (codes "tr" ∷ []) (followed (quota_row Alone places v) (followed (left_row Alone places v) (followed lines Nothing))) in
    in_page places h path v no_part (λ full i. refl) refl
    ∙ ap (λ l. in_parts places h path v (rounds_part Alone places v) ++ l) (no_parts (ends_of v))
    ∙ append-nil (in_parts places h path v (rounds_part Alone places v))
    ∙ ap (map h) (append-nil (((them ++ []) ++ []) ++ []) ∙ append-nil ((them ++ []) ++ []) ∙ append-nil (them ++ [])
    ∙ append-nil them)
    ∙ ap (λ l. h (quotas_within places v) ∷ h (left_within places v) ∷ l) (ap (found h (codes "tr") []) (behind_nothing lines)
    ∙ found_each h (codes "tr") [] (candidate_row Alone places v) (all_places (length v.names))
    ∙ flat_map_single (λ p. h (votes_within places v p)) (all_places (length v.names)))

pub table_heads : (places : ℕ) (v : SheetList) →
    cells_of places (codes "th") v
    ≡ (codes "Quota" ∷ []) ∷ (codes "On no candidate" ∷ []) ∷ map (λ p. called_text v p ∷ []) (all_places (length v.names))
table_heads places v =
    let th = codes "th" in
    let h = texts_along (th ∷ []) in
    let names = λ (k : ℕ). called_text v k ∷ [] in
    table_lines places h v
    ∙ ap (λ l. (codes "Quota" ∷ l) ∷ h (left_within places v) ∷ map (λ p. h (votes_within places v p)) (all_places (length v.names)))
    (no_cells places th v Quota (λ i. refl))
    ∙ ap (λ l. (codes "Quota" ∷ []) ∷ (codes "On no candidate" ∷ l) ∷ map (λ p. h (votes_within places v p)) (all_places (length v.names)))
    (no_cells places th v LeftOver (λ i. refl))
    ∙ (λ j. (codes "Quota" ∷ []) ∷ (codes "On no candidate" ∷ []) ∷ map (λ p. name p j) (all_places (length v.names)))
  where
    name : (p : ℕ) → texts_along (codes "th" ∷ []) (votes_within places v p) ≡ called_text v p ∷ []
    name p =
        let behind = codes " (" ++ (decimal (p + 1) ++ codes ")") in
        ap (λ l. ((name_at v p ++ []) ++ behind) ∷ l)
        (no_cells places (codes "th") v (Candidate p) (λ i. refl))
        ∙ ap (λ l. (l ++ behind) ∷ []) (append-nil (name_at v p))

pub table_cells : (places : ℕ) (v : SheetList) →
    cells_of places (codes "td") v
    ≡ map (λ row. text_of places row.quota) (ends_of v) ∷ map (λ row. text_of places (left_over places v.ballots row)) (ends_of v)
    ∷ map (line_texts places v) (all_places (length v.names))
table_cells places v =
    let td = codes "td" in
    let h = texts_along (td ∷ []) in
    let quotas = map (λ (row : Row). text_of places row.quota) (ends_of v) in
    let left = map (λ (row : Row). text_of places (left_over places v.ballots row)) (ends_of v) in
    table_lines places h v
    ∙ ap (λ l. l ∷ h (left_within places v) ∷ map (λ p. h (votes_within places v p)) (all_places (length v.names)))
    (in_cells places td v Quota (λ row. text_of places row.quota) (λ i. amount_said places (row_at v.rows i).quota))
    ∙ ap (λ l. quotas ∷ l ∷ map (λ p. h (votes_within places v p)) (all_places (length v.names)))
    (in_cells places td v LeftOver (λ row. text_of places (left_over places v.ballots row))
    (λ i. amount_said places (left_over places v.ballots (row_at v.rows i))))
    ∙ (λ j. quotas ∷ left ∷ map (λ p. votes p j) (all_places (length v.names)))
  where
    votes : (p : ℕ) → texts_along (codes "td" ∷ []) (votes_within places v p) ≡ line_texts places v p
    votes p =
        in_cells places (codes "td") v (Candidate p) (λ row. vote_text places row p) (λ i. vote_said places (settled_at v i) p)

-- ---- the head

pub table_columns : (places : ℕ) (v : SheetList) →
    texts_along (below (codes "div" ∷ codes "table" ∷ codes "thead" ∷ codes "tr" ∷ codes "th" ∷ [])) (page places v)
    ≡ codes "Candidate" ∷ map (λ row. decimal row.round) (ends_of v)
table_columns places v =
    let path = codes "div" ∷ codes "table" ∷ codes "thead" ∷ codes "tr" ∷ codes "th" ∷ [] in
    let heads = followed (cells Alone places v Round) Nothing in
    let them = along (codes "th" ∷ []) (followed first_head heads) in
    in_page places text_in path v no_part (λ full i. refl) refl
    ∙ ap (λ l. in_parts places text_in path v (rounds_part Alone places v) ++ l) (no_parts (ends_of v))
    ∙ append-nil (in_parts places text_in path v (rounds_part Alone places v))
    ∙ ap (map text_in) (append-nil ((((them ++ []) ++ []) ++ []) ++ []) ∙ append-nil (((them ++ []) ++ []) ++ [])
    ∙ append-nil ((them ++ []) ++ []) ∙ append-nil (them ++ []) ∙ append-nil them)
    ∙ ap (λ l. codes "Candidate" ∷ l)
    (in_cells places (codes "th") v Round (λ row. decimal row.round) number)
  where
    number : (i : ℕ) → texts_along (codes "th" ∷ []) (round_head (link_to Alone i) (row_at v.rows i).round)
        ≡ decimal (settled_at v i).round ∷ []
    number i =
        let digits = decimal (row_at v.rows i).round in
        ap (λ l. l ∷ []) (append-nil (digits ++ []) ∙ append-nil digits)
