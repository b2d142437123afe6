-- Rows of choices that say rankings.
use Rattle.std.proofs.Common.{◌≡◌, ℕ, suc, zero, ◌+◌, ◌-◌, ◌<◌, ◌≤◌, eqb, get_or, List, [], ◌∷◌, ◌++◌, length, map, zip}
use Rattle.std.proofs.Common.{replicate, filter_map, arith}
use Rattle.std.proofs.Common.{Option, Some, None, Result, Ok, All, refl, ap, sym, ◌∙◌, subst}
use Rattle.std.specs.List.{position_or_len, range_with_len}
use Rattle.std.proofs.lemmas.Bool.{eq-eqb, ne_eqb}
use Rattle.std.proofs.lemmas.List.Sums.{position_or_len_is}
use Rattle.std.proofs.lemmas.List.{ext_get_or, get_or-map, length-append, length-map, length-replicate}
use Rattle.std.proofs.lemmas.List.FromFn.{get_or-map-range_with_len, get_or-range_with_len, length-map-range_with_len, length-range_with_len}
use Rattle.std.proofs.lemmas.List.Elements.{All-nil, All-cons, All-head, All-tail}
use Rattle.plain_ballots.specs.Ranking.{IsRanking}
use Rattle.plain_ballots.proofs.RankingLemmas.{length-IsRanking}
use Rattle.ballot_marks.specs.declared.says.Says.{Says}
use Rattle.ballot_marks.specs.declared.says.Says.TheVariants.{One}
use Rattle.ballot_marks.specs.Laws.{PlainMarksAreRanked}
use Rattle.ballot_table.specs.declared.column.Column.{Column}
use Rattle.ballot_table.specs.declared.column.Column.TheVariants as column
use Rattle.ballot_table.specs.declared.layout.Layout.{Layout}
use Rattle.ballot_table.specs.declared.layout.Layout.TheVariants as layout
use Rattle.ballot_table.specs.declared.table_kind.TableKind.{TableKind}
use Rattle.ballot_table.specs.Asked.{Asked}
use Rattle.ballot_table.specs.Faults.{sound}
use Rattle.ballot_table.specs.Cells.{Cell, Said, as_cell, cell_of, fault_one, says_in}
use Rattle.ballot_table.specs.Layouts.{AreNames, ChoicesSayRankings, choices_row}
use Rattle.ballot_table.specs.Rows.{at_places, cells_of, chosen_of, places_of, ranks_at, said_at, weight_in}
use Rattle.ballot_table.proofs.SayingLemmas.{SaysRanking, plainly, say_rankings, says_ranking}
use Rattle.ballot_table.proofs.WeightLemmas.{IsFine}

module _ (asked : Asked) (room : ℕ) where
  abbrev cells : List (Column × List ℕ) → List (Result Cell TableKind)
  cells ps = map (λ (p : Column × List ℕ). cell_of asked room p.0 p.1) ps

  -- what cells come to: no weight, no fault, and what they say
  pub record ComeTo (ps : List (Column × List ℕ)) (says : List (Option Says)) : Type 0 where
    pub weightless : filter_map weight_in ps ≡ []
    pub fine : All IsFine (cells ps)
    pub said : chosen_of (sound (cells ps)) ≡ says

  -- a cell before others
  one_more : (rank : ℕ) (text : List ℕ) (says : Option Says) (ps : List (Column × List ℕ)) (others : List (Option Says))
      → says_in asked text ≡ Ok says → ComeTo ps others → ComeTo ((column.Rank rank, text) ∷ ps) (says ∷ others)
  one_more rank text says ps others is come = record {
    weightless = come.weightless;
    fine =
        All-cons IsFine (as_cell Said (says_in asked text)) (cells ps)
        (ap (λ (r : Result (Option Says) TableKind). fault_one (as_cell Said r)) is) come.fine;
    said =
        ap (λ (r : Result (Option Says) TableKind). chosen_of (sound (as_cell Said r ∷ cells ps))) is
        ∙ ap (λ (l : List (Option Says)). says ∷ l) come.said;
  }

  blank_cells : (from k : ℕ) → ComeTo (zip (map column.Rank (range_with_len from k)) (replicate k [])) (replicate k None)
  blank_cells from zero = record { weightless = refl; fine = All-nil IsFine; said = refl }
  blank_cells from (suc k) =
      one_more from [] None (zip (map column.Rank (range_with_len (from + 1) k)) (replicate k [])) (replicate k None) refl
      (blank_cells (from + 1) k)

  abbrev wide : (from m : ℕ) → List (List ℕ) → List (Column × List ℕ)
  wide from m texts = zip (map column.Rank (range_with_len from m)) texts

  named_cells : (name : ℕ → List ℕ) (n : ℕ) → AreNames asked name n → (from k m : ℕ) (ranks : List ℕ)
      → length ranks + k ≡ m → All (λ c. (1 ≤ c) × (c ≤ n)) ranks
      → ComeTo (wide from m (map name ranks ++ replicate k [])) (plainly ranks k)
  named_cells name n named from k m [] is all =
      let same : k ≡ m = omega (arith, is) in
      subst (λ (l : ℕ). ComeTo (wide from l (replicate k [])) (replicate k None)) same (blank_cells from k)
  named_cells name n named from k zero (c ∷ ranks) is all = absurd (omega (arith, is))
  named_cells name n named from k (suc m) (c ∷ ranks) is all =
      let here = All-head (λ c. (1 ≤ c) × (c ≤ n)) c ranks all in
      one_more from (name c) (Some (One c)) (wide (from + 1) m (map name ranks ++ replicate k []))
      (plainly ranks k) (named c here.0 here.1)
      (named_cells name n named (from + 1) k m ranks (omega (arith, is))
      (All-tail (λ c. (1 ≤ c) × (c ≤ n)) c ranks all))

abbrev rank_columns : ℕ → List Column
rank_columns n = map column.Rank (range_with_len 1 n)

-- ---- columns of the ranks in their order

ranks_in_order : (from n : ℕ) → ranks_at (map column.Rank (range_with_len from n)) ≡ range_with_len from n
ranks_in_order from zero = refl
ranks_in_order from (suc n) = ap (λ (ranks : List ℕ). from ∷ ranks) (ranks_in_order (from + 1) n)

-- each rank is at its place
place_in_order : (n k : ℕ) → k < n → position_or_len (λ other. eqb other (k + 1)) (range_with_len 1 n) ≡ k
place_in_order n k inside =
    let long = length-range_with_len 1 n in
    position_or_len_is (λ other. eqb other (k + 1)) (range_with_len 1 n) k 0 (omega (arith, inside, long))
    (λ i before. ap (λ (r : ℕ). eqb r (k + 1)) (get_or-range_with_len 1 n i 0 (omega (arith, before, inside)))
    ∙ ne_eqb (1 + i) (k + 1) (λ e. let no = e in absurd (omega (arith, before, no))))
    (λ within. ap (λ (r : ℕ). eqb r (k + 1)) (get_or-range_with_len 1 n k 0 inside) ∙ eq-eqb (1 + k) (k + 1) (omega arith))

-- what is at the places of ranks in their order
said_in_order : (n : ℕ) (says : List (Option Says)) → length says ≡ n
    → at_places (places_of (rank_columns n)) says ≡ says
said_in_order n says long =
    let place = λ (ranks : List ℕ) (rank : ℕ). position_or_len (λ other. eqb other rank) ranks in
    let at = λ (place_is : ℕ). get_or says place_is None in
    let places : places_of (rank_columns n) ≡ map (place (range_with_len 1 n)) (range_with_len 1 n) =
    ap (λ (ranks : List ℕ). map (place ranks) (range_with_len 1 (length ranks))) (ranks_in_order 1 n)
    ∙ ap (λ (m : ℕ). map (place (range_with_len 1 n)) (range_with_len 1 m)) (length-range_with_len 1 n) in
    let count = length-map-range_with_len (place (range_with_len 1 n)) 1 n in
    let all = map (place (range_with_len 1 n)) (range_with_len 1 n) in
    ap (λ (ps : List ℕ). at_places ps says) places
    ∙ ext_get_or None (map at all) says (length-map all at ∙ count ∙ sym long)
    (λ k inside.
    let within : k < n = let whole = length-map all at in omega (arith, inside, whole, count) in
    get_or-map at all k 0 None (omega (arith, within, count))
    ∙ ap at (get_or-map-range_with_len (place (range_with_len 1 n)) 1 n k (k + 1) 0 within (omega arith))
    ∙ ap at (place_in_order n k within))

module _ (asked : Asked) (name : ℕ → List ℕ) (n : ℕ) (named : AreNames asked name n) where
  says_choices : asked.layout ≡ layout.Choices → (room : ℕ) (ranks : List ℕ) → IsRanking n ranks
      → SaysRanking asked room (rank_columns n) (choices_row name n ranks) ranks
  says_choices choices room ranks is =
      let k = n - length ranks in
      let texts = choices_row name n ranks in
      let whole : length ranks + k ≡ n = omega (arith, length-IsRanking n ranks is) in
      let come = named_cells asked room name n named 1 k n ranks whole is.numbers in
      let long : length texts ≡ length (rank_columns n) =
      length-append (map name ranks) (replicate k []) ∙ omega (
        arith,
        whole,
        length-map ranks name,
        length-replicate {A = List ℕ} k [],
        length-map-range_with_len column.Rank 1 n,
      ) in
      says_ranking asked room (rank_columns n) texts ranks long come.weightless come.fine k
      (ap (λ (l : Layout). said_at l (rank_columns n) (sound (cells_of asked room (rank_columns n) texts))) choices
      ∙ ap (at_places (places_of (rank_columns n))) come.said
      ∙ said_in_order n (plainly ranks k) (length-append (map (λ c. Some (One c)) ranks) (replicate k None)
      ∙ omega (
        arith,
        whole,
        length-map ranks (λ (c : ℕ). Some (One c)),
        length-replicate {A = Option Says} k None,
      )))

pub choices_say_rankings : PlainMarksAreRanked → ChoicesSayRankings
choices_say_rankings plain asked head name n rankings has named all =
    say_rankings plain asked head n (choices_row name n)
    (λ room ranks is. subst (λ (cols : List Column). SaysRanking asked room cols (choices_row name n ranks) ranks)
    (sym has.columns_are) (says_choices asked name n named has.layout room ranks is))
    has.sound rankings all
