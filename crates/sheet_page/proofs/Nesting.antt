-- Pages have well named elements, so they nest.
use Rattle.std.proofs.Common.{◌≡◌, refl, ℕ, ◌+◌, ◌&&◌, not, List, [], ◌∷◌, Bool, true, false, length, map}
use Rattle.std.specs.Prelude.{if◌then◌else◌, codes, nat_eq, Option, Some, None}
use Rattle.std.specs.Char.{is_ascii}
use Rattle.std.specs.List.{list_all, list_any}
use Rattle.fixed_place.specs.Rounding.{scale}
use Rattle.fixed_place.specs.Text.{text_of}
use Rattle.lot_order.specs.Flags.{mark_at}
use Rattle.meek_rule.specs.Row.{Row}
use Rattle.page_tree.specs.Trees.{Nothing, IsWellNamed}
use Rattle.count_promise.specs.declared.group.Group.{Group}
use Rattle.count_promise.specs.Left.{first_defeat}
use Rattle.count_promise.specs.Lots.{chosen_among, is_by_lot, is_in}
use Rattle.sheet_reader.specs.Values.{SheetList}
use Rattle.sheet_words.specs.Lines.{at_end, sentences_of}
use Rattle.sheet_words.specs.Sentences.{outcome, sentences_at_end}
use Rattle.sheet_minutes.specs.declared.entry.Entry.{Entry}
use Rattle.sheet_minutes.specs.declared.entry.Entry.TheVariants.{Round, Quota, LeftOver, Candidate}
use Rattle.sheet_minutes.specs.Rounds.{ends_round, left_over, row_at}
use Rattle.sheet_page.specs.declared.part_names.PartNames.{PartNames}
use Rattle.sheet_page.specs.declared.part_names.PartNames.TheVariants.{Alone}
use Rattle.sheet_page.specs.Told.{end_list, item, outcome_list, result_part, result_title, round_sentences, sentences_at, spoken}
use Rattle.sheet_page.specs.Trees.{at, each, el, isolated, words}
use Rattle.sheet_page.proofs.Tested.{tested, Tested, sound, tested_all, tested_each, tested_el, tested_if}
use Rattle.sheet_page.specs.Values.{all_places, name_at}
use Rattle.sheet_page.specs.Promised.{bound_or_none, chosen, lot_at, lot_if, lot_items, lot_verb, lots_in, no_lot_item, other, other_at}
use Rattle.sheet_page.specs.Promised.{promise_head, promise_list, promise_part, told_promise}
use Rattle.sheet_page.specs.RoundEnds.{settled_at}
use Rattle.sheet_page.specs.Stretches.{is_of_round}
use Rattle.sheet_page.specs.Bars.{bars_of, has_bar, rest_count, rest_votes}
use Rattle.sheet_page.specs.Picture.{scaled, bar, bar_at, quota_line, picture_title, picture_attributes, picture}
use Rattle.sheet_page.specs.Picture.{amounts_of, amounts_text, rest_part, rest_text, round_picture, full_of}
use Rattle.sheet_page.specs.Iterations.{concerns, standing_at, standing_of, iteration_head, iteration, iteration_at}
use Rattle.sheet_page.specs.Iterations.{iterations, summary, folded}
use Rattle.sheet_page.specs.Html.{in_round, at_end as seat_at_end, elected_item, elected_in, is_seated, seated_item}
use Rattle.sheet_page.specs.Html.{elected_list, elected_title, elected_part, rounds_title, words_explained, rounds_part}
use Rattle.sheet_page.specs.Html.{round_title, round_part, part_at, round_parts, heading, sheet_parts, content, body, head, page}
use Rattle.sheet_page.specs.Links.{link_at, link_list, link_to, links, part_attributes, part_name, round_link}
use Rattle.sheet_page.specs.RoundTable.{candidate_head, candidate_row, caption, first_head, frame_attributes}
use Rattle.sheet_page.specs.RoundTable.{cell_at, cells, head_row, left_row, line_head, quota_row, round_cell}
use Rattle.sheet_page.specs.RoundTable.{rounds_table, table_body, table_frame, table_head}

-- ---- the parts of a page

elected_tested : (v : SheetList) → tested (elected_part v) ≡ true
elected_tested v = tested_el (codes "section") [] (elected_title ∷ elected_list v ∷ []) refl refl refl (refl, (list, tt))
  where
    item : (row : Row) (p : ℕ) → tested (elected_item v row p) ≡ true
    item row p = tested_if (mark_at row.elected p) (in_round (name_at v p) (p + 1) row.round) refl

    seated : (p : ℕ) → tested (seated_item v p) ≡ true
    seated p = tested_if (is_seated v p) (seat_at_end (name_at v p) (p + 1)) refl

    list : tested (elected_list v) ≡ true
    list =
        tested_el (codes "ol") []
        (each (elected_in v) v.rows ∷ each (seated_item v) (all_places (length v.names)) ∷ []) refl refl refl (
          tested_each (elected_in v) v.rows (λ row. tested_each (elected_item v row) (all_places (length v.names)) (item row)),
          (tested_each (seated_item v) (all_places (length v.names)) seated, tt),
        )

rounds_tested : (names : PartNames) (places : ℕ) (v : SheetList) → tested (rounds_part names places v) ≡ true
rounds_tested names places v =
    tested_el (codes "section") [] (rounds_title ∷ table_frame names places v ∷ words_explained ∷ []) refl refl refl
    (refl, (frame, (refl, tt)))
  where
    said : (entry : Entry) (i : ℕ) → tested (round_cell names places v entry i) ≡ true
    said Round i = refl
    said Quota i = refl
    said LeftOver i = refl
    said (Candidate p) i = refl

    -- what a line says of the rounds
    line : (entry : Entry) → tested (cells names places v entry) ≡ true
    line entry =
        tested_each (cell_at names places v entry) (all_places (length v.rows))
        (λ i. tested_if (ends_round v.rows i) (round_cell names places v entry i) (said entry i))

    first : tested (table_head names places v) ≡ true
    first =
        tested_el (codes "thead") [] (head_row names places v ∷ []) refl refl refl (
          tested_el (codes "tr") [] (first_head ∷ cells names places v Round ∷ []) refl refl refl (refl, (line Round, tt)),
          tt,
        )

    quotas : tested (quota_row names places v) ≡ true
    quotas = tested_el (codes "tr") [] (line_head (codes "Quota") ∷ cells names places v Quota ∷ []) refl refl refl (refl, (line Quota, tt))

    left : tested (left_row names places v) ≡ true
    left =
        tested_el (codes "tr") [] (line_head (codes "On no candidate") ∷ cells names places v LeftOver ∷ []) refl refl refl
        (refl, (line LeftOver, tt))

    one : (p : ℕ) → tested (candidate_row names places v p) ≡ true
    one p =
        tested_el (codes "tr") [] (candidate_head (name_at v p) (p + 1) ∷ cells names places v (Candidate p) ∷ []) refl refl refl
        (refl, (line (Candidate p), tt))

    lines : tested (table_body names places v) ≡ true
    lines =
        tested_el (codes "tbody") []
        (quota_row names places v ∷ left_row names places v ∷ each (candidate_row names places v) (all_places (length v.names)) ∷ []) refl refl refl
        (quotas, (left, (tested_each (candidate_row names places v) (all_places (length v.names)) one, tt)))

    frame : tested (table_frame names places v) ≡ true
    frame =
        tested_el (codes "div") frame_attributes (rounds_table names places v ∷ []) refl refl refl (
          tested_el (codes "table") [] (caption ∷ table_head names places v ∷ table_body names places v ∷ []) refl refl refl
              (refl, (first, (lines, tt))),
          tt,
        )

picture_tested : (places : ℕ) (v : SheetList) (full : ℕ) (row : Row) → tested (round_picture places v full row) ≡ true
picture_tested places v full row =
    tested_all (amounts_of places v.ballots row ∷ picture places v full row ∷ []) (said, (drawn, tt))
  where
    drawn : tested (picture places v full row) ≡ true
    drawn =
        tested_el (codes "svg") (picture_attributes (bars_of row)) (picture_title row.round
        ∷ each (bar_at places v full row) (all_places (length v.names))
        ∷ quota_line (scaled full row.quota) (bars_of row) ∷ []) refl refl refl (
          refl,
          (tested_each (bar_at places v full row) (all_places (length v.names)) (λ p. tested_if (has_bar row p) (bar places v full row p) refl), (refl, tt)),
        )

    said : tested (amounts_of places v.ballots row) ≡ true
    said =
        tested_el (codes "p") [] (amounts_text places row.quota (left_over places v.ballots row) ∷ rest_part places row ∷ []) refl refl refl
        (refl, (rest, tt))
      where
        rest : tested (rest_part places row) ≡ true
        rest = by (nat_eq (rest_count row) 0)
          where
            by : (b : Bool) → tested (if b then Nothing else rest_text (rest_count row) (text_of places (rest_votes row))) ≡ true
            by true = refl
            by false = refl

folded_tested : (places : ℕ) (v : SheetList) (last : ℕ) → tested (folded places v last) ≡ true
folded_tested places v last =
    tested_el (codes "details") [] (summary (row_at v.rows last).round ∷ iterations places v last ∷ []) refl refl refl (
      refl,
      (
        tested_each (iteration_at places v last) (all_places (last + 1))
            (λ i. tested_if (is_of_round v.rows last i) (iteration places v (row_at v.rows i)) (one (row_at v.rows i))),
        tt,
      ),
    )
  where
    one : (row : Row) → tested (iteration places v row) ≡ true
    one row =
        tested_el (codes "dl") [] (iteration_head places row ∷ each (standing_at places row) (all_places (length v.names)) ∷ []) refl refl refl (
          refl,
          (
            tested_each (standing_at places row) (all_places (length v.names))
                (λ p. tested_if (concerns row p) (standing_of places row p) refl),
            tt,
          ),
        )

spoken_tested : (text : List ℕ) → tested (spoken text) ≡ true
spoken_tested text = by (list_all is_ascii text)
  where
    by : (b : Bool) → tested (if b then words text else isolated text) ≡ true
    by true = refl
    by false = refl

texts_tested : (texts : List (List ℕ)) → Tested (map spoken texts)
texts_tested [] = tt
texts_tested (text ∷ texts) = (spoken_tested text, texts_tested texts)

items_tested : (sentences : List (List (List ℕ))) → tested (each item sentences) ≡ true
items_tested sentences =
    tested_each item sentences (λ texts. tested_el (codes "li") [] (map spoken texts) refl refl refl (texts_tested texts))

told_tested : (places : ℕ) (v : SheetList) (last : ℕ) → tested (round_sentences places v last) ≡ true
told_tested places v last =
    tested_el (codes "ul") [] (each (sentences_at places v last) (all_places (last + 1)) ∷ []) refl refl refl (
      tested_each (sentences_at places v last) (all_places (last + 1)) (λ i.
          tested_if (is_of_round v.rows last i) (each item (sentences_of places v (row_at v.rows i)))
          (items_tested (sentences_of places v (row_at v.rows i)))),
      tt,
    )

result_tested : (v : SheetList) → tested (result_part v) ≡ true
result_tested v =
    tested_el (codes "section") [] (result_title ∷ end_list v ∷ outcome_list v ∷ []) refl refl refl
    (refl, (list (map at_end (sentences_at_end v)), (list (map (outcome v) (all_places (length v.names))), tt)))
  where
    list : (sentences : List (List (List ℕ))) → tested (el (codes "ul") [] (each item sentences ∷ [])) ≡ true
    list sentences =
        tested_el (codes "ul") [] (each item sentences ∷ []) refl refl refl (items_tested sentences, tt)

promise_tested : (places : ℕ) (v : SheetList) → tested (promise_part places v) ≡ true
promise_tested places v =
    tested_if (nat_eq places 9) (told_promise places v)
    (tested_el (codes "section") [] (promise_head ∷ promise_list places v ∷ []) refl refl refl (refl, (list, tt)))
  where
    others : (row : Row) (p : ℕ) (group : Group) → tested (each (other_at v row group p) (all_places (length row.states))) ≡ true
    others row p group =
        tested_each (other_at v row group p) (all_places (length row.states))
        (λ q. tested_if (is_in row group q && not (nat_eq q p)) (other (name_at v q) (q + 1)) refl)

    lot : (row : Row) (p : ℕ) (among : Option Group) → tested (lot_if v row p among) ≡ true
    lot row p None = refl
    lot row p (Some group) =
        tested_el (codes "li") [] (
        chosen (name_at v p) (p + 1) row.round row.iteration (lot_verb group)
        ∷ each (other_at v row group p) (all_places (length row.states)) ∷ words (codes ".") ∷ []
        ) refl refl refl (refl, (others row p group, (refl, tt)))

    lots : (b : Bool) → tested (if b then each (lots_in v) v.rows else no_lot_item) ≡ true
    lots true =
        tested_each (lots_in v) v.rows
        (λ row. tested_each (lot_at v row) (all_places (length row.states)) (λ p. lot row p (chosen_among row p)))
    lots false = refl

    bound : (great : Option Row) → tested (bound_or_none places v great) ≡ true
    bound None = refl
    bound (Some row) = refl

    list : tested (promise_list places v) ≡ true
    list =
        tested_el (codes "ul") [] (lot_items v ∷ bound_or_none places v (first_defeat (scale places) v.rows) ∷ []) refl refl refl
        (lots (list_any is_by_lot v.rows), (bound (first_defeat (scale places) v.rows), tt))

parts_tested : (names : PartNames) (places : ℕ) (v : SheetList) (full : ℕ) → tested (round_parts names places v full) ≡ true
parts_tested names places v full =
    tested_each (part_at names places v full) (all_places (length v.rows))
    (λ i. tested_if (ends_round v.rows i) (round_part names places v full i) (part i))
  where
    part : (last : ℕ) → tested (round_part names places v full last) ≡ true
    part last =
        let row = settled_at v last in
        tested_el (codes "section") (part_attributes (part_name names last))
        (round_title row.round ∷ round_sentences places v last ∷ round_picture places v full row ∷ folded places v last ∷ []) refl refl refl
        (refl, (told_tested places v last, (picture_tested places v full row, (folded_tested places v last, tt))))

links_tested : (names : PartNames) (v : SheetList) → tested (links names v) ≡ true
links_tested names v =
    tested_el (codes "nav") (at (codes "aria-label") (codes "Rounds") ∷ []) (link_list names v ∷ []) refl refl refl (list, tt)
  where
    list : tested (link_list names v) ≡ true
    list =
        tested_el (codes "ul") [] (each (link_at names v) (all_places (length v.rows)) ∷ []) refl refl refl (
          tested_each (link_at names v) (all_places (length v.rows)) (λ i.
              tested_if (ends_round v.rows i) (round_link (link_to names i) (row_at v.rows i).round) refl),
          tt,
        )

-- all that a page shows of a sheet
pub sheet_tested : (names : PartNames) (places : ℕ) (v : SheetList) → tested (sheet_parts names places v) ≡ true
sheet_tested names places v =
    tested_all (
    heading v ∷ links names v ∷ elected_part v ∷ result_part v ∷ promise_part places v ∷ rounds_part names places v
    ∷ round_parts names places v (full_of v.rows) ∷ []
    ) (
      refl,
      (
        links_tested names v,
        (
          elected_tested v,
          (
            result_tested v,
            (promise_tested places v, (rounds_tested names places v, (parts_tested names places v (full_of v.rows), tt))),
          ),
        ),
      ),
    )

-- every page
pub well_named : (places : ℕ) (v : SheetList) → IsWellNamed (page places v)
well_named places v =
    sound (page places v) (tested_el (codes "html") (at (codes "lang") (codes "en") ∷ []) (head v ∷ body places v ∷ []) refl
    refl refl (refl, (whole, tt)))
  where
    parts : tested (content places v) ≡ true
    parts =
        tested_el (codes "main") []
        (
        heading v ∷ links Alone v ∷ elected_part v ∷ result_part v ∷ promise_part places v ∷ rounds_part Alone places v
        ∷ round_parts Alone places v (full_of v.rows) ∷ []
        ) refl refl refl (
          refl,
          (
            links_tested Alone v,
            (
              elected_tested v,
              (
                result_tested v,
                (promise_tested places v, (rounds_tested Alone places v, (parts_tested Alone places v (full_of v.rows), tt))),
              ),
            ),
          ),
        )

    whole : tested (body places v) ≡ true
    whole = tested_el (codes "body") [] (content places v ∷ []) refl refl refl (parts, tt)
