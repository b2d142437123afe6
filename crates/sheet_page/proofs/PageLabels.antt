-- The labels of the pictures on a page, and what is said of amounts beside them.
use Rattle.std.proofs.Common.{◌≡◌, ◌∙◌, refl, sym, ap, ℕ, ◌+◌, Bool, true, false, List, [], ◌∷◌, ◌++◌, map, length, append-nil}
use Rattle.std.specs.Prelude.{if◌then◌else◌, codes, decimal, nat_eq, slice_index}
use Rattle.std.specs.List.{filter, flat_map}
use Rattle.std.proofs.lemmas.List.Concat.{flat_map_single}
use Rattle.candidate_roll.specs.State.{state_at}
use Rattle.fixed_place.specs.Text.{text_of}
use Rattle.meek_rule.specs.Row.{Row}
use Rattle.page_tree.specs.Trees.{Trees, Nothing, followed}
use Rattle.sheet_text.specs.Lines.{state_word}
use Rattle.sheet_reader.specs.Values.{SheetList}
use Rattle.sheet_minutes.specs.Rounds.{left_over}
use Rattle.sheet_page.specs.Bars.{bars_of, has_bar, rest_count, rest_votes}
use Rattle.sheet_page.specs.Html.{page}
use Rattle.sheet_page.specs.Json.{joined}
use Rattle.sheet_page.specs.PageLaws.{at_nine, promise_said, below, amounts_line, rest_line, called_text, label_text, ends_of}
use Rattle.sheet_page.specs.PageReading.{text_in, along, texts_along}
use Rattle.sheet_page.specs.Picture.{bar, bar_at, quota_line, rest_part, rest_text, scaled}
use Rattle.sheet_page.specs.RoundEnds.{settled_at}
use Rattle.sheet_page.specs.Trees.{each}
use Rattle.sheet_page.specs.Values.{all_places, name_at}
use Rattle.sheet_page.proofs.PageTexts.{in_all, in_promise, in_page}
use Rattle.sheet_page.proofs.PageWalks.{picked, found, found_followed, found_each, found_if}

abbrev labels : Trees → List (List ℕ)
labels = found text_in (codes "text") []

-- what stands over a bar
said : (places : ℕ) (v : SheetList) (full : ℕ) (row : Row) (p : ℕ) → labels (bar places v full row p) ≡ label_text places v row p ∷ []
said places v full row p =
    let front = λ (l : List ℕ).
    state_word (state_at row.states p) ++ (codes " " ++ (text_of places (slice_index row.votes p) ++ (codes " " ++ l))) in
    ap (λ l. front (l ++ (codes " (" ++ (decimal (p + 1) ++ codes ")"))) ∷ []) (append-nil (name_at v p))
    ∙ ap (λ l. front l ∷ []) (sym (append-nil (called_text v p)))

-- the bars of a round, and the line of its quota
bars : (places : ℕ) (v : SheetList) (full : ℕ) (row : Row) →
    labels (followed (each (bar_at places v full row) (all_places (length v.names)))
    (followed (quota_line (scaled full row.quota) (bars_of row)) Nothing))
    ≡ map (label_text places v row) (filter (has_bar row) (all_places (length v.names)))
bars places v full row =
    let line = followed (quota_line (scaled full row.quota) (bars_of row)) Nothing in
    found_followed text_in (codes "text") [] (each (bar_at places v full row) (all_places (length v.names))) line
    ∙ append-nil (labels (each (bar_at places v full row) (all_places (length v.names))))
    ∙ found_each text_in (codes "text") [] (bar_at places v full row) (all_places (length v.names))
    ∙ (λ j. flat_map (λ p. here p j) (all_places (length v.names)))
    ∙ picked (has_bar row) (label_text places v row) (all_places (length v.names))
  where
    here : (p : ℕ) → labels (bar_at places v full row p) ≡ (if has_bar row p then label_text places v row p ∷ [] else [])
    here p =
        found_if text_in (codes "text") [] (has_bar row p) (bar places v full row p)
        ∙ ap (λ l. if has_bar row p then l else []) (said places v full row p)

pub picture_labels : (places : ℕ) (v : SheetList) →
    texts_along (below (codes "svg" ∷ codes "text" ∷ [])) (page places v)
    ≡ flat_map (λ row. map (label_text places v row) (filter (has_bar row) (all_places (length v.names)))) (ends_of v)
picture_labels places v =
    in_page places text_in (codes "svg" ∷ codes "text" ∷ []) v
    (λ row. map (label_text places v row) (filter (has_bar row) (all_places (length v.names)))) here refl
  where
    here : (full i : ℕ) →
        map text_in ((along (codes "text" ∷ []) (followed (each (bar_at places v full (settled_at v i)) (all_places (length v.names)))
        (followed (quota_line (scaled full (settled_at v i).quota) (bars_of (settled_at v i))) Nothing)) ++ []) ++ [])
        ≡ map (label_text places v (settled_at v i)) (filter (has_bar (settled_at v i)) (all_places (length v.names)))
    here full i =
        let row = settled_at v i in
        let them = along (codes "text" ∷ []) (followed (each (bar_at places v full row) (all_places (length v.names)))
        (followed (quota_line (scaled full row.quota) (bars_of row)) Nothing)) in
        ap (map text_in) (append-nil (them ++ []) ∙ append-nil them) ∙ bars places v full row

-- ---- what is said of amounts

abbrev said_of : (places : ℕ) → Row → List ℕ
said_of places row =
    joined (
    codes " With fewer votes and without a bar: " ∷ decimal (rest_count row) ∷ codes ". Their votes together: "
    ∷ text_of places (rest_votes row) ∷ codes "." ∷ []
    )

rest_said : (places : ℕ) (row : Row) → text_in (followed (rest_part places row) Nothing) ≡ rest_line places row ++ []
rest_said places row = either (nat_eq (rest_count row) 0)
  where
    either : (b : Bool) → text_in (followed (if b then Nothing else rest_text (rest_count row) (text_of places (rest_votes row))) Nothing)
        ≡ (if b then [] else said_of places row) ++ []
    either true = refl
    either false = sym (append-nil (said_of places row))

pub amount_texts : (places : ℕ) (v : SheetList) →
    texts_along (below (codes "p" ∷ [])) (page places v) ≡ at_nine places promise_said ++ map (amounts_line places v) (ends_of v)
amount_texts places v =
    in_all places text_in (codes "p" ∷ []) v (λ row. amounts_line places v row ∷ []) (λ full i. here i)
    ∙ ap (λ l. l ++ flat_map (λ row. amounts_line places v row ∷ []) (ends_of v))
    (in_promise places text_in (codes "p" ∷ []) v promise_said refl)
    ∙ ap (λ l. at_nine places promise_said ++ l) (flat_map_single (amounts_line places v) (ends_of v))
  where
    here : (i : ℕ) →
        (codes "Quota " ++ (text_of places (settled_at v i).quota ++ (codes ": the broken line. On no candidate: "
        ++ (text_of places (left_over places v.ballots (settled_at v i)) ++ (codes "."
        ++ text_in (followed (rest_part places (settled_at v i)) Nothing)))))) ∷ []
        ≡ amounts_line places v (settled_at v i) ∷ []
    here i =
        let row = settled_at v i in
        ap (λ l. (codes "Quota " ++ (text_of places row.quota ++ (codes ": the broken line. On no candidate: "
        ++ (text_of places (left_over places v.ballots row) ++ (codes "." ++ l))))) ∷ []) (rest_said places row)
