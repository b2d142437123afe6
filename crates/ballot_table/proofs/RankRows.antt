-- Rows of ranks that say rankings.
use Rattle.std.proofs.Common.{◌≡◌, ℕ, zero, suc, ◌+◌, ◌-◌, ◌<◌, ◌≤◌, ◌==◌, Bool, true, false, cond, List, []}
use Rattle.std.proofs.Common.{◌∷◌, ◌++◌, length, map, replicate}
use Rattle.std.proofs.Common.{zip, filter, filter_map, Option, Some, None, Result, Ok, All, refl, ap, sym}
use Rattle.std.proofs.Common.{◌∙◌, subst, arith, append_assoc}
use Rattle.std.specs.List.{cons_option, enumerate_from, range_with_len}
use Rattle.std.specs.Option.{option_map_or}
use Rattle.std.proofs.lemmas.List.{length-append}
use Rattle.std.proofs.lemmas.List.FromFn.{length-map-range_with_len}
use Rattle.std.proofs.lemmas.List.Elements.{All-nil, All-cons, All-head, All-tail}
use Rattle.plain_ballots.specs.Ranking.{IsRanking}
use Rattle.plain_ballots.specs.declared.limits.TheConstants.{MOST_CANDIDATES}
use Rattle.plain_ballots.proofs.RankingLemmas.{length-IsRanking}
use Rattle.ballot_marks.specs.declared.says.Says.{Says}
use Rattle.ballot_marks.specs.declared.says.Says.TheVariants.{One}
use Rattle.ballot_marks.specs.Laws.{PlainMarksAreRanked}
use Rattle.ballot_table.specs.declared.column.Column.{Column}
use Rattle.ballot_table.specs.declared.column.Column.TheVariants as column
use Rattle.ballot_table.specs.declared.layout.Layout.{Layout}
use Rattle.ballot_table.specs.declared.layout.Layout.TheVariants as layout
use Rattle.ballot_table.specs.declared.table_kind.TableKind.{TableKind}
use Rattle.ballot_table.specs.Asked.{Asked}
use Rattle.ballot_table.specs.Faults.{sound}
use Rattle.ballot_table.specs.Cells.{Cell, Ranked, as_cell, cell_of, fault_one, rank_in}
use Rattle.ballot_table.specs.Layouts.{AreRankTexts, RanksSayRankings, rank_cell, rank_of, ranks_row}
use Rattle.ballot_table.specs.Rows.{cells_of, holders, ranks_of, said_at, said_by_holders, weight_in, said_up_to}
use Rattle.ballot_table.proofs.HolderLemmas.{filter_none, filter_one, has_rank, nobody, only_holder, rank_within}
use Rattle.ballot_table.proofs.SayingLemmas.{SaysRanking, plainly, say_rankings, says_ranking}
use Rattle.ballot_table.proofs.WeightLemmas.{IsFine}

-- ---- who holds each rank

module _ (f : ℕ × Option ℕ → Option ℕ) (rank : ℕ) (blank : (c : ℕ) → f (c, None) ≡ None)
    (said : (c r : ℕ) → f (c, Some r) ≡ cond (r == rank) (Some c) None)
  where
    held : (c : ℕ) (o : Option ℕ) → f (c, o) ≡ cond (option_map_or (λ (r : ℕ). r == rank) o false) (Some c) None
    held c None = blank c
    held c (Some r) = said c r

    put : (b : Bool) (c : ℕ) (rest : List ℕ) → cons_option (cond b (Some c) None) rest ≡ cond b (c ∷ rest) rest
    put true c rest = refl
    put false c rest = refl

    -- those who have the rank, of some candidates one after another
    held_from : (ranks : List ℕ) (from m : ℕ)
        → filter_map f (enumerate_from from (map (rank_of ranks) (range_with_len from m)))
        ≡ filter (has_rank ranks rank) (range_with_len from m)
    held_from ranks from zero = refl
    held_from ranks from (suc m) =
        let more = filter_map f (enumerate_from (from + 1) (map (rank_of ranks) (range_with_len (from + 1) m))) in
        ap (λ (o : Option ℕ). cons_option o more) (held from (rank_of ranks from))
        ∙ put (has_rank ranks rank from) from more
        ∙ ap (λ (l : List ℕ). cond (has_rank ranks rank from) (from ∷ l) l) (held_from ranks (from + 1) m)

-- the table of a ranking: the rank of each of n candidates
abbrev table : ℕ → List ℕ → List (Option ℕ)
table n ranks = map (rank_of ranks) (range_with_len 1 n)

holders_are : (n rank : ℕ) (ranks : List ℕ)
    → holders rank (table n ranks) ≡ filter (has_rank ranks rank) (range_with_len 1 n)
holders_are n rank ranks = held_from _ rank (λ c. refl) (λ c r. refl) ranks 1 n

abbrev said_of : ℕ → List ℕ → ℕ → Option Says
said_of n ranks rank = said_by_holders (holders rank (table n ranks))

module _ (n : ℕ) where
  -- the rank after a front is its candidate's
  one_said : (front back : List ℕ) (c : ℕ) → IsRanking n (front ++ c ∷ back) → (1 ≤ c) × (c ≤ n)
      → said_of n (front ++ c ∷ back) (length front + 1) ≡ Some (One c)
  one_said front back c is within =
      ap said_by_holders (holders_are n (length front + 1) (front ++ c ∷ back)
      ∙ filter_one (has_rank (front ++ c ∷ back) (length front + 1)) c
      (λ other. only_holder front back c other is.different) 1 n within.0 (omega (arith, within.1)))

  -- and after the last nobody's
  none_said : (ranks : List ℕ) (rank : ℕ) → length ranks < rank → said_of n ranks rank ≡ None
  none_said ranks rank behind =
      ap said_by_holders (holders_are n rank ranks
      ∙ filter_none (has_rank ranks rank) (λ c. nobody ranks rank c behind) 1 n)

  blank_behind : (ranks : List ℕ) (from j : ℕ) → length ranks < from
      → map (said_of n ranks) (range_with_len from j) ≡ replicate j None
  blank_behind ranks from zero behind = refl
  blank_behind ranks from (suc j) behind =
      ap (λ (o : Option Says). o ∷ map (said_of n ranks) (range_with_len (from + 1) j)) (none_said ranks from behind)
      ∙ ap (λ (l : List (Option Says)). None ∷ l) (blank_behind ranks (from + 1) j (omega (arith, behind)))

  all_said : (front back : List ℕ) (j m : ℕ) → IsRanking n (front ++ back) → All (λ c. (1 ≤ c) × (c ≤ n)) back
      → length back + j ≡ m → map (said_of n (front ++ back)) (range_with_len (length front + 1) m) ≡ plainly back j
  all_said front [] j m is all long =
      let same : m ≡ j = omega (arith, long) in
      ap (λ (k : ℕ). map (said_of n (front ++ [])) (range_with_len (length front + 1) k)) same
      ∙ blank_behind (front ++ []) (length front + 1) j (omega (arith, length-append front []))
  all_said front (c ∷ back) j zero is all long = absurd (omega (arith, long))
  all_said front (c ∷ back) j (suc m) is all long =
      let ranks = front ++ c ∷ back in
      let same : (front ++ c ∷ []) ++ back ≡ ranks = append_assoc front (c ∷ []) back in
      let further : length (front ++ c ∷ []) + 1 ≡ length front + 1 + 1 = omega (arith, length-append front (c ∷ [])) in
      let later =
      all_said (front ++ c ∷ []) back j m (subst (IsRanking n) (sym same) is)
      (All-tail (λ c. (1 ≤ c) × (c ≤ n)) c back all) (omega (arith, long)) in
      let moved : map (said_of n ranks) (range_with_len (length front + 1 + 1) m) ≡ plainly back j =
      ap (λ (l : List ℕ). map (said_of n l) (range_with_len (length front + 1 + 1) m)) (sym same)
      ∙ ap (λ (from : ℕ). map (said_of n ((front ++ c ∷ []) ++ back)) (range_with_len from m)) (sym further) ∙ later in
      ap (λ (o : Option Says). o ∷ map (said_of n ranks) (range_with_len (length front + 1 + 1) m))
      (one_said front back c is (All-head (λ c. (1 ≤ c) × (c ≤ n)) c back all))
      ∙ ap (λ (l : List (Option Says)). Some (One c) ∷ l) moved

  said_of_all : (ranks : List ℕ) (j : ℕ) → IsRanking n ranks → length ranks + j ≡ MOST_CANDIDATES
      → said_up_to MOST_CANDIDATES (table n ranks) ≡ plainly ranks j
  unfolding said_up_to
  said_of_all ranks j is whole = all_said [] ranks j MOST_CANDIDATES is is.numbers whole

-- ---- cells

module _ (asked : Asked) (room : ℕ) (text : ℕ → List ℕ) (n : ℕ) (texts : AreRankTexts asked text n) (ranks : List ℕ)
    (few : length ranks ≤ n)
  where
    abbrev cells : List (Column × List ℕ) → List (Result Cell TableKind)
    cells ps = map (λ (p : Column × List ℕ). cell_of asked room p.0 p.1) ps

    -- a cell says the rank that it was made of
    says_rank : (o : Option ℕ) → ((r : ℕ) → o ≡ Some r → (1 ≤ r) × (r ≤ n)) → rank_in asked (rank_cell text o) ≡ Ok o
    says_rank None within = refl
    says_rank (Some r) within =
        let here = within r refl in
        texts r here.0 here.1

    abbrev row_from : ℕ → ℕ → List (Column × List ℕ)
    row_from from m =
        zip (map column.Candidate (range_with_len from m))
        (map (λ c. rank_cell text (rank_of ranks c)) (range_with_len from m))

    -- what cells come to: no weight, no fault, and the rank of each candidate
    record ComeTo (from m : ℕ) : Type 0 where
      weightless : filter_map weight_in (row_from from m) ≡ []
      fine : All IsFine (cells (row_from from m))
      said : ranks_of (sound (cells (row_from from m))) ≡ map (rank_of ranks) (range_with_len from m)

    come_to : (from m : ℕ) → ComeTo from m
    come_to from zero = record { weightless = refl; fine = All-nil IsFine; said = refl }
    come_to from (suc m) =
        let more = come_to (from + 1) m in
        let others = cells (row_from (from + 1) m) in
        let here : Result (Option ℕ) TableKind = rank_in asked (rank_cell text (rank_of ranks from)) in
        let is : here ≡ Ok (rank_of ranks from) =
        says_rank (rank_of ranks from) (λ r found.
        let within = rank_within ranks from r found in (within.0, omega (arith, within.1, few))) in
        record {
          weightless = more.weightless;
          fine =
              All-cons IsFine (as_cell Ranked here) others
              (ap (λ (r : Result (Option ℕ) TableKind). fault_one (as_cell Ranked r)) is) more.fine;
          said =
              ap (λ (r : Result (Option ℕ) TableKind). ranks_of (sound (as_cell Ranked r ∷ others))) is
              ∙ ap (λ (l : List (Option ℕ)). rank_of ranks from ∷ l) more.said;
        }

-- ---- rows

abbrev candidate_columns : ℕ → List Column
candidate_columns n = map column.Candidate (range_with_len 1 n)

module _ (asked : Asked) (text : ℕ → List ℕ) (n : ℕ) (fits : n ≤ MOST_CANDIDATES) (texts : AreRankTexts asked text n) where
  says_ranks : asked.layout ≡ layout.Ranks → (room : ℕ) (ranks : List ℕ) → IsRanking n ranks
      → SaysRanking asked room (candidate_columns n) (ranks_row text n ranks) ranks
  says_ranks is_ranks room ranks is =
      let few = length-IsRanking n ranks is in
      let row = ranks_row text n ranks in
      let come = come_to asked room text n texts ranks few 1 n in
      let j = MOST_CANDIDATES - length ranks in
      let whole : length ranks + j ≡ MOST_CANDIDATES = omega (arith, few, fits) in
      let long : length row ≡ length (candidate_columns n) =
      length-map-range_with_len (λ (c : ℕ). rank_cell text (rank_of ranks c)) 1 n
      ∙ sym (length-map-range_with_len column.Candidate 1 n) in
      says_ranking asked room (candidate_columns n) row ranks long come.weightless come.fine j
      (ap (λ (l : Layout). said_at l (candidate_columns n) (sound (cells_of asked room (candidate_columns n) row))) is_ranks
      ∙ ap (said_up_to MOST_CANDIDATES) come.said ∙ said_of_all n ranks j is whole)

pub ranks_say_rankings : PlainMarksAreRanked → RanksSayRankings
ranks_say_rankings plain asked head text n rankings has fits texts all =
    say_rankings plain asked head n (ranks_row text n)
    (λ room ranks is. subst (λ (cols : List Column). SaysRanking asked room cols (ranks_row text n ranks) ranks)
    (sym has.columns_are) (says_ranks asked text n fits texts has.layout room ranks is))
    has.sound rankings all
