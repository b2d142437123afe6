-- The bars of the pictures on a page.
use Rattle.std.proofs.Common.{◌≡◌, ◌∙◌, refl, sym, ap, subst, ℕ, suc, ◌≤◌, Bool, true, false, List, [], ◌∷◌}
use Rattle.std.proofs.Common.{map, length, append-nil, arith, All}
use Rattle.std.specs.Prelude.{if◌then◌else◌, codes, nat_eq}
use Rattle.std.specs.List.{filter, flat_map}
use Rattle.std.proofs.lemmas.List.{length-map}
use Rattle.std.proofs.lemmas.List.Elements.{All-cons, All-head, All-nil, All-tail, All-weaker}
use Rattle.candidate_roll.specs.declared.state.State.{State}
use Rattle.meek_rule.specs.Row.{Row}
use Rattle.page_tree.specs.Trees.{Trees, Nothing, followed}
use Rattle.sheet_reader.specs.Form.{IsPrintableRow}
use Rattle.sheet_reader.specs.Values.{SheetList}
use Rattle.sheet_page.specs.Bars.{bars_of, has_bar}
use Rattle.sheet_page.specs.PageLaws.{PicturesAreSmall, bar_count, ends_of, pictures_of, round_ends}
use Rattle.sheet_page.specs.PageReading.{along, children}
use Rattle.sheet_page.specs.Picture.{bar, bar_at, quota_line, scaled}
use Rattle.sheet_page.specs.RoundEnds.{settled, settled_at}
use Rattle.sheet_page.specs.Trees.{each}
use Rattle.sheet_page.specs.Values.{all_places}
use Rattle.sheet_page.proofs.BarCounts.{few_bars}
use Rattle.sheet_page.proofs.PageTexts.{in_page}
use Rattle.sheet_page.proofs.PageWalks.{picked, found, found_followed, found_each, found_if}

-- one for each bar
abbrev mark : Trees → ℕ
mark within = 0

abbrev marks : Trees → List ℕ
marks = found mark (codes "rect") []

bars_marked : (places : ℕ) (v : SheetList) (full : ℕ) (row : Row) →
    marks (followed (each (bar_at places v full row) (all_places (length v.names)))
    (followed (quota_line (scaled full row.quota) (bars_of row)) Nothing))
    ≡ map (λ p. 0) (filter (has_bar row) (all_places (length v.names)))
bars_marked places v full row =
    let line = followed (quota_line (scaled full row.quota) (bars_of row)) Nothing in
    found_followed mark (codes "rect") [] (each (bar_at places v full row) (all_places (length v.names))) line
    ∙ append-nil (marks (each (bar_at places v full row) (all_places (length v.names))))
    ∙ found_each mark (codes "rect") [] (bar_at places v full row) (all_places (length v.names))
    ∙ (λ j. flat_map (λ p. here p j) (all_places (length v.names)))
    ∙ picked (has_bar row) (λ p. 0) (all_places (length v.names))
  where
    here : (p : ℕ) → marks (bar_at places v full row p) ≡ (if has_bar row p then 0 ∷ [] else [])
    here p = found_if mark (codes "rect") [] (has_bar row p) (bar places v full row p)

-- as many marks as there are elements
marked_each : (xs : List Trees) → length (map mark (flat_map (along []) xs)) ≡ length xs
marked_each [] = refl
marked_each (x ∷ xs) = ap suc (marked_each xs)

-- how many of so many candidates have a bar
abbrev bars : (n : ℕ) → Row → ℕ
bars n row = length (filter (has_bar row) (all_places n))

bars_counted : (places : ℕ) (v : SheetList) (full : ℕ) (row : Row) →
    length (children (codes "rect") (followed (each (bar_at places v full row) (all_places (length v.names)))
    (followed (quota_line (scaled full row.quota) (bars_of row)) Nothing)))
    ≡ bars (length v.names) row
bars_counted places v full row =
    let trees = followed (each (bar_at places v full row) (all_places (length v.names)))
    (followed (quota_line (scaled full row.quota) (bars_of row)) Nothing) in
    sym (marked_each (children (codes "rect") trees))
    ∙ (ap (λ (l : List ℕ). length l) (bars_marked places v full row)
    ∙ length-map (filter (has_bar row) (all_places (length v.names))) (λ p. 0))

-- the bars of the pictures are those of the rounds
counts : (places : ℕ) (v : SheetList) → map bar_count (pictures_of places v) ≡ flat_map (λ row. bars (length v.names) row ∷ []) (ends_of v)
counts places v =
    in_page places bar_count (codes "svg" ∷ []) v (λ row. bars (length v.names) row ∷ [])
    (λ full i. ap (λ (k : ℕ). k ∷ []) (bars_counted places v full (settled_at v i))) refl

abbrev IsSmall : ℕ → Type 0
IsSmall k = k ≤ 24

module _ (n : ℕ) where
  -- has a vote for each of so many
  abbrev HasVotes : Row → Type 0
  HasVotes row = n ≤ length row.votes

  abbrev of_ends : List Row → List ℕ
  of_ends rows = flat_map (λ row. bars n row ∷ []) rows

  ends_small : (rows : List Row) (last : List State) → All HasVotes rows → All IsSmall (of_ends (round_ends rows last))
  ends_small [] last all = All-nil IsSmall
  ends_small (row ∷ []) last all =
      All-cons IsSmall (bars n row) [] (few_bars row n (All-head HasVotes row [] all)) (All-nil IsSmall)
  ends_small (row ∷ next ∷ rows) last all =
      by (nat_eq row.round next.round) (ends_small (next ∷ rows) last (All-tail HasVotes row (next ∷ rows) all))
    where
      by : (b : Bool) → All IsSmall (of_ends (round_ends (next ∷ rows) last))
          → All IsSmall (of_ends (if b then round_ends (next ∷ rows) last
          else settled row next.states ∷ round_ends (next ∷ rows) last))
      by true rest = rest
      by false rest =
          All-cons IsSmall (bars n row) (of_ends (round_ends (next ∷ rows) last))
          (few_bars row n (All-head HasVotes row (next ∷ rows) all)) rest

small_each : (xs : List Trees) (ys : List ℕ) → map bar_count xs ≡ ys → All IsSmall ys → All (λ picture. bar_count picture ≤ 24) xs
small_each [] ys same all = All-nil (λ (picture : Trees). bar_count picture ≤ 24)
small_each (x ∷ xs) [] same all = absurd (cc)
small_each (x ∷ xs) (y ∷ ys) same all =
    let head : bar_count x ≡ y = cc in
    let tail : map bar_count xs ≡ ys = cc in
    All-cons (λ (picture : Trees). bar_count picture ≤ 24) x xs (subst IsSmall (sym head) (All-head IsSmall y ys all))
    (small_each xs ys tail (All-tail IsSmall y ys all))

pub pictures_small : PicturesAreSmall
pictures_small places v is =
    let n = length v.names in
    small_each (pictures_of places v) (of_ends n (ends_of v)) (counts places v)
    (ends_small n v.rows v.last
    (All-weaker (IsPrintableRow places n) (HasVotes n)
    (λ (row : Row) (fits : IsPrintableRow places n row). omega (arith, fits.of_all.votes)) v.rows is.rows))
