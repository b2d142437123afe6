-- The iterations that stand on a page.
use Rattle.std.proofs.Common.{◌≡◌, ◌∙◌, refl, sym, ap, ℕ, ◌+◌, ◌&&◌, not, Bool, true, false, List, [], ◌∷◌, ◌++◌, map, length}
use Rattle.std.proofs.Common.{append-nil, eqb-true}
use Rattle.std.proofs.Math.ListN.{length-map}
use Rattle.std.specs.Prelude.{if◌then◌else◌, codes, nat_eq, slice_index}
use Rattle.std.specs.List.{filter, flat_map}
use Rattle.std.proofs.lemmas.Bool.{and_parts}
use Rattle.std.proofs.lemmas.List.{get_or-map}
use Rattle.std.proofs.lemmas.List.Concat.{flat_map_single}
use Rattle.std.proofs.lemmas.List.FromFn.{fill_by_all}
use Rattle.candidate_roll.specs.State.{state_at}
use Rattle.meek_rule.specs.Row.{Row, blank}
use Rattle.page_tree.specs.Trees.{Trees, Nothing, followed}
use Rattle.sheet_reader.specs.Values.{SheetList}
use Rattle.sheet_minutes.specs.Rounds.{row_at}
use Rattle.sheet_page.specs.Html.{page}
use Rattle.sheet_page.specs.Iterations.{concerns, is_out, standing_at, standing_of, iteration_head, iteration, iteration_at}
use Rattle.sheet_page.specs.PageLaws.{below, iteration_text, standing_text, iterations_of}
use Rattle.sheet_page.specs.PageReading.{text_in, along, texts_along}
use Rattle.sheet_page.specs.Stretches.{is_of_round}
use Rattle.sheet_page.specs.Trees.{all, each}
use Rattle.sheet_page.specs.Values.{all_places}
use Rattle.sheet_page.proofs.PageTexts.{in_page_at}
use Rattle.sheet_page.proofs.PageWalks.{no_part, no_parts, picked, behind_nothing, found, found_each, found_if}
use Rattle.sheet_page.proofs.WholeRounds.{of_round, all_rounds}

-- what is in an iteration
abbrev iteration_within : (places : ℕ) → SheetList → Row → Trees
iteration_within places v row = all (iteration_head places row ∷ each (standing_at places row) (all_places (length v.names)) ∷ [])

module _ (places : ℕ)
    {X : Type 0} (h : Trees → X) (v : SheetList) (g : Row → X) (is : (row : Row) → h (iteration_within places v row) ≡ g row) where
  -- an iteration, place by place
  abbrev said : ℕ → List X
  said i = g (row_at v.rows i) ∷ []

  -- the iterations of the round that ends at a place
  of_part :
      (last : ℕ)
      → found h (codes "dl") [] (each (iteration_at places v last) (all_places (last + 1)))
      ≡ of_round v.rows said last
  of_part last =
      found_each h (codes "dl") [] (iteration_at places v last) (all_places (last + 1))
      ∙ (λ j. flat_map (λ i. here i j) (all_places (last + 1)))
    where
      here :
          (i : ℕ)
          → found h (codes "dl") [] (iteration_at places v last i)
          ≡ (if is_of_round v.rows last i then said i else [])
      here i =
          found_if h (codes "dl") [] (is_of_round v.rows last i) (iteration places v (row_at v.rows i))
          ∙ ap (λ x. if is_of_round v.rows last i then x ∷ [] else []) (is (row_at v.rows i))

  -- all of them, one after another
  row_by_row : flat_map said (all_places (length v.rows)) ≡ map g v.rows
  row_by_row =
      flat_map_single (λ i. g (row_at v.rows i)) (all_places (length v.rows))
      ∙ sym (fill_by_all (λ i. g (row_at v.rows i)) (map g v.rows) (length v.rows) (g (blank 0)) (length-map v.rows g)
      (λ i below. get_or-map g v.rows i (blank 0) (g (blank 0)) below))

  pub all_iterations : map h (along (below (codes "details" ∷ codes "dl" ∷ [])) (page places v)) ≡ map g v.rows
  all_iterations =
      in_page_at places h (codes "details" ∷ codes "dl" ∷ []) v (of_round v.rows said) (λ full last. here last) refl
      ∙ all_rounds v.rows said
      ∙ row_by_row
    where
      here : (last : ℕ) →
          map h
          ((along (codes "dl" ∷ []) (followed (each (iteration_at places v last) (all_places (last + 1))) Nothing) ++ []) ++ [])
          ≡ of_round v.rows said last
      here last =
          let trees = each (iteration_at places v last) (all_places (last + 1)) in
          let them = along (codes "dl" ∷ []) (followed trees Nothing) in
          ap (map h) (append-nil (them ++ []) ∙ append-nil them)
          ∙ ap (found h (codes "dl") []) (behind_nothing trees)
          ∙ of_part last

-- ---- the candidates of an iteration

-- what the elements of a name say, after the line of the iteration
standings : (places : ℕ) (name : List ℕ) (v : SheetList) (row : Row) →
    texts_along (name ∷ []) (followed (each (standing_at places row) (all_places (length v.names))) Nothing)
    ≡ flat_map (λ p. if concerns row p then texts_along (name ∷ []) (standing_of places row p) else []) (all_places (length v.names))
standings places name v row =
    ap (texts_along (name ∷ [])) (behind_nothing (each (standing_at places row) (all_places (length v.names))))
    ∙ found_each text_in name [] (standing_at places row) (all_places (length v.names))
    ∙ (λ j. flat_map (λ p. found_if text_in name [] (concerns row p) (standing_of places row p) j) (all_places (length v.names)))

line_of : (places : ℕ) (v : SheetList) (row : Row) → texts_along (codes "dt" ∷ []) (iteration_within places v row) ≡ iteration_text places row ∷ []
line_of places v row =
    ap (λ l. iteration_text places row ∷ l) (standings places (codes "dt") v row
    ∙ (λ j. flat_map (λ p. either (concerns row p) j) (all_places (length v.names)))
    ∙ no_parts (all_places (length v.names)))
  where
    either : (b : Bool) → (if b then [] else []) ≡ no_part {X = Bool} {Y = List ℕ} b
    either true = refl
    either false = refl

concerned : (places : ℕ) (v : SheetList) (row : Row) → texts_along (codes "dd" ∷ []) (iteration_within places v row)
    ≡ map (standing_text places row) (filter (concerns row) (all_places (length v.names)))
concerned places v row = standings places (codes "dd") v row ∙ picked (concerns row) (standing_text places row) (all_places (length v.names))

pub iteration_heads : (places : ℕ) (v : SheetList) → iterations_of places (codes "dt") v ≡ map (λ row. iteration_text places row ∷ []) v.rows
iteration_heads places v = all_iterations places (texts_along (codes "dt" ∷ [])) v (λ row. iteration_text places row ∷ []) (line_of places v)

pub iteration_candidates : (places : ℕ) (v : SheetList) →
    iterations_of places (codes "dd") v
    ≡ map (λ row. map (standing_text places row) (filter (concerns row) (all_places (length v.names)))) v.rows
iteration_candidates places v =
    all_iterations places (texts_along (codes "dd" ∷ [])) v
    (λ row. map (standing_text places row) (filter (concerns row) (all_places (length v.names)))) (concerned places v)

-- who is left out has no vote and keeps nothing
pub left_out : (row : Row) (p : ℕ) → concerns row p ≡ false → (slice_index row.votes p ≡ 0) × (slice_index row.keeps p ≡ 0)
left_out row p is =
    let keeps = nat_eq (slice_index row.keeps p) 0 in
    let has = nat_eq (slice_index row.votes p) 0 in
    let both = and_parts (is_out (state_at row.states p) && keeps) has (not_not (is_out (state_at row.states p) && keeps && has) is) in
    (eqb-true _ _ both.1, eqb-true _ _ (and_parts (is_out (state_at row.states p)) keeps both.0).1)
  where
    not_not : (b : Bool) → not b ≡ false → b ≡ true
    not_not true is = refl
    not_not false is = cc
