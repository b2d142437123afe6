-- The marks of a row say its candidates.
use Rattle.std.proofs.Common.{get_or, ◌≡◌, ℕ, zero, suc, ◌+◌, ◌<◌, ◌≤◌, Bool, true, false, cond, eqb, List, [], ◌∷◌}
use Rattle.std.proofs.Common.{Option, Some, None, Result, Ok, Err, All, map, length, refl, ap, sym, ◌∙◌, subst, arith, inl, inr}
use Rattle.std.specs.Bool.{⊤}
use Rattle.std.specs.List.{filter_map, enumerate_from, cons_option, position_or_len, range_with_len, slice_get}
use Rattle.std.specs.Option.{option_map}
use Rattle.std.specs.Str.{bytes_eq}
use Rattle.std.proofs.lemmas.Bool.Decides.{leb_tells}
use Rattle.std.proofs.lemmas.List.Elements.{All-nil, All-cons, All-head, All-tail, All-append}
use Rattle.ballot_marks.specs.declared.mark.Mark.{Mark}
use Rattle.ballot_marks.specs.declared.says.Says.{Says}
use Rattle.ballot_marks.specs.declared.says.Says.TheVariants.{One, Over}
use Rattle.ballot_marks.specs.Marks.{SaysOneOf}
use Rattle.ballot_table.specs.declared.column.Column.{Column}
use Rattle.ballot_table.specs.declared.column.Column.TheVariants as column
use Rattle.ballot_table.specs.declared.layout.Layout.{Layout}
use Rattle.ballot_table.specs.declared.layout.Layout.TheVariants as layout
use Rattle.ballot_table.specs.declared.table_kind.TableKind.{TableKind}
use Rattle.ballot_table.specs.declared.table_kind.TableKind.TheVariants.{NoSuchCandidate}
use Rattle.plain_ballots.specs.declared.limits.TheConstants.{MOST_CANDIDATES}
use Rattle.ballot_table.specs.Asked.{Asked}
use Rattle.ballot_table.specs.Cells.{Cell, Counts, Ranked, Said, Listed, cell_of, as_cell, counted, rank_in}
use Rattle.ballot_table.specs.Cells.{says_in, some_or, one_of, all_of, all_or, fault_one, is_blank}
use Rattle.ballot_table.specs.Faults.{sound}
use Rattle.ballot_table.specs.Finding.{among}
use Rattle.ballot_table.specs.Rows.{holder, holders, said_by_holders, said_up_to, said_of, by_rank, marks_behind, marks_of}
use Rattle.ballot_table.specs.Rows.{at_places, chosen_of, listed_of, places_of, ranks_of, said_at}
use Rattle.ballot_table.specs.Texts.{is_in, number, number_in, parts}

-- what a rank says is one of n candidates, where it is one
abbrev pub IsWithin : ℕ → Option Says → Type 0
IsWithin n None = ⊤
IsWithin n (Some says) = SaysOneOf n says

module _ (n : ℕ) where
  abbrev IsMarkOf : Mark → Type 0
  IsMarkOf m = SaysOneOf n m.says

  abbrev IsSaidOf : ℕ × Says → Type 0
  IsSaidOf s = SaysOneOf n s.1

  said_within : (from : ℕ) (says : List (Option Says)) → All (IsWithin n) says
      → All IsSaidOf (filter_map said_of (enumerate_from from says))
  said_within from [] all = All-nil IsSaidOf
  said_within from (None ∷ says) all = said_within (from + 1) says (All-tail (IsWithin n) None says all)
  said_within from (Some s ∷ says) all =
      All-cons IsSaidOf (from, s) (filter_map said_of (enumerate_from (from + 1) says))
      (All-head (IsWithin n) (Some s) says all)
      (said_within (from + 1) says (All-tail (IsWithin n) (Some s) says all))

  marks_within : (last : ℕ) (said : List (ℕ × Says)) → All IsSaidOf said → All IsMarkOf (marks_behind last said)
  marks_within last [] all = All-nil IsMarkOf
  marks_within last ((rank, s) ∷ said) all =
      All-cons IsMarkOf _ (marks_behind rank said) (All-head IsSaidOf (rank, s) said all)
      (marks_within rank said (All-tail IsSaidOf (rank, s) said all))

-- the marks of ranks that say candidates do
pub marks_one_of : (n : ℕ) (says : List (Option Says)) → All (IsWithin n) says
    → All (λ (m : Mark). SaysOneOf n m.says) (marks_of (by_rank says))
marks_one_of n says all = marks_within n 0 (by_rank says) (said_within n 1 says all)

-- ---- ranks of candidates

-- the holders of a rank are among so many candidates from one on
abbrev pub IsFrom : (from n : ℕ) → ℕ → Type 0
IsFrom from n c = (from ≤ c) × (c < from + n)

wider : (from n : ℕ) (cs : List ℕ) → All (IsFrom (from + 1) n) cs → All (IsFrom from (n + 1)) cs
wider from n [] all = All-nil (IsFrom from (n + 1))
wider from n (c ∷ cs) all =
    let one = All-head (IsFrom (from + 1) n) c cs all in
    All-cons (IsFrom from (n + 1)) c cs (omega (arith, one.0), omega (arith, one.1))
    (wider from n cs (All-tail (IsFrom (from + 1) n) c cs all))

with_holder_first : (rank from n : ℕ) (q : Option ℕ) (cs : List ℕ) → All (IsFrom from (n + 1)) cs
    → All (IsFrom from (n + 1)) (cons_option (holder rank (from, q)) cs)
with_holder_first rank from n None cs all = all
with_holder_first rank from n (Some r) cs all = by_test (eqb r rank)
  where
    by_test : (b : Bool) → All (IsFrom from (n + 1)) (cons_option (cond b (Some from) None) cs)
    by_test true = All-cons (IsFrom from (n + 1)) from cs (omega arith, omega arith) all
    by_test false = all

pub holders_from : (rank from : ℕ) (ranks : List (Option ℕ))
    → All (IsFrom from (length ranks)) (filter_map (holder rank) (enumerate_from from ranks))
holders_from rank from [] = All-nil (IsFrom from 0)
holders_from rank from (q ∷ qs) =
    let rest = wider from (length qs) (filter_map (holder rank) (enumerate_from (from + 1) qs))
    (holders_from rank (from + 1) qs) in
    subst (λ n. All (IsFrom from n) (filter_map (holder rank) (enumerate_from from (q ∷ qs)))) (omega arith)
    (with_holder_first rank from (length qs) q (filter_map (holder rank) (enumerate_from (from + 1) qs)) rest)

held_within : (n : ℕ) (cs : List ℕ) → All (IsFrom 1 n) cs → IsWithin n (said_by_holders cs)
held_within n [] all = tt
held_within n (c ∷ []) all =
    let one = All-head (IsFrom 1 n) c [] all in (one.0, omega (arith, one.1))
held_within n (c ∷ d ∷ cs) all = tt

ranks_within : (ranks : List (Option ℕ)) (from k : ℕ)
    → All (IsWithin (length ranks)) (map (λ rank. said_by_holders (holders rank ranks)) (range_with_len from k))
ranks_within ranks from zero = All-nil (IsWithin (length ranks))
ranks_within ranks from (suc k) =
    All-cons (IsWithin (length ranks)) (said_by_holders (holders from ranks))
    (map (λ rank. said_by_holders (holders rank ranks)) (range_with_len (from + 1) k))
    (held_within (length ranks) (holders from ranks) (holders_from from 1 ranks)) (ranks_within ranks (from + 1) k)

all_ranks_within : (most : ℕ) (ranks : List (Option ℕ)) → All (IsWithin (length ranks)) (said_up_to most ranks)
unfolding said_up_to
all_ranks_within most ranks = ranks_within ranks 1 most

-- ---- names of candidates

module _ (asked : Asked) where
  abbrev IsNamed : Option Says → Type 0
  IsNamed = IsWithin (length asked.candidates)

  place_within : (names : List (List ℕ)) (text : List ℕ) (c : ℕ) → number_in names text ≡ Some c
      → (1 ≤ c) × (c ≤ length names)
  place_within names text c is =
      let at = position_or_len (λ other. bytes_eq other text) names in
      elim (leb_tells (suc at) (length names)) [
        | inl inside ↦
            let found : Some (at + 1) ≡ Some c =
            sym (ap (λ (b : Bool). option_map (λ (i : ℕ). i + 1) (cond b (Some at) None)) inside.0) ∙ is in
            let same : at + 1 ≡ c = cc found in
            (omega (arith, same), omega (arith, same, inside.1))
        | inr outside ↦
            absurd (cc (sym (ap (λ (b : Bool). option_map (λ (i : ℕ). i + 1) (cond b (Some at) None)) outside.0) ∙ is))
      ]

  number_within : (number : Option ℕ) → ((c : ℕ) → number ≡ Some c → (1 ≤ c) × (c ≤ length asked.candidates))
      → (says : Option Says) → some_or NoSuchCandidate (one_of number) ≡ Ok says → IsNamed says
  number_within None within says is = absurd (cc is)
  number_within (Some c) within says is =
      let same : Some (One c) ≡ says = cc is in subst IsNamed same (within c refl)

  by_tests : (blank over : Bool) (r : Result (Option Says) TableKind) → ((says : Option Says) → r ≡ Ok says → IsNamed says)
      → (says : Option Says) → cond blank (Ok None) (cond over (Ok (Some Over)) r) ≡ Ok says → IsNamed says
  by_tests true over r within says is = let same : None ≡ says = cc is in subst IsNamed same tt
  by_tests false true r within says is = let same : Some Over ≡ says = cc is in subst IsNamed same tt
  by_tests false false r within says is = within says is

  text_within : (text : List ℕ) (says : Option Says) → says_in asked text ≡ Ok says → IsNamed says
  text_within text says is =
      by_tests (is_blank asked text) (is_in asked.over text)
      (some_or NoSuchCandidate (one_of (number_in asked.candidates text)))
      (number_within (number_in asked.candidates text) (place_within asked.candidates text)) says is

  -- what is said of texts, where each is sound
  one_more : (r : Result (Option Says) TableKind) (rs : List (Result (Option Says) TableKind))
      → ((says : Option Says) → r ≡ Ok says → IsNamed says) → All IsNamed (sound rs) → All IsNamed (sound (r ∷ rs))
  one_more (Ok says) rs within all = All-cons IsNamed says (sound rs) (within says refl) all
  one_more (Err kind) rs within all = all

  texts_within : (texts : List (List ℕ)) → All IsNamed (sound (map (says_in asked) texts))
  texts_within [] = All-nil IsNamed
  texts_within (text ∷ texts) =
      one_more (says_in asked text) (map (says_in asked) texts) (text_within text) (texts_within texts)

  list_within : (kind : Option TableKind) (rs : List (Result (Option Says) TableKind)) (says : List (Option Says))
      → all_or kind rs ≡ Ok says → All IsNamed (sound rs) → All IsNamed says
  list_within None rs says is all = let same : sound rs ≡ says = cc is in subst (All IsNamed) same all
  list_within (Some kind) rs says is all = absurd (cc is)

  -- whoever is said by cells is a candidate
  pub record AreNamed (cells : List Cell) : Type 0 where
    pub chosen : All IsNamed (chosen_of cells)
    pub listed : All IsNamed (listed_of cells)

  -- what a cell says before others
  said_more : (r : Result (Option Says) TableKind) (cells : List (Result Cell TableKind))
      → ((says : Option Says) → r ≡ Ok says → IsNamed says) → AreNamed (sound cells)
      → AreNamed (sound (as_cell Said r ∷ cells))
  said_more (Ok says) cells within all = record {
    chosen = All-cons IsNamed says (chosen_of (sound cells)) (within says refl) all.chosen;
    listed = all.listed;
  }
  said_more (Err kind) cells within all = all

  listed_more : (r : Result (List (Option Says)) TableKind) (cells : List (Result Cell TableKind))
      → ((says : List (Option Says)) → r ≡ Ok says → All IsNamed says) → AreNamed (sound cells)
      → AreNamed (sound (as_cell Listed r ∷ cells))
  listed_more (Ok says) cells within all = record {
    chosen = all.chosen;
    listed = All-append IsNamed says (listed_of (sound cells)) (within says refl) all.listed;
  }
  listed_more (Err kind) cells within all = all

  counted_more : (r : Result ℕ TableKind) (cells : List (Result Cell TableKind)) → AreNamed (sound cells)
      → AreNamed (sound (as_cell Counts r ∷ cells))
  counted_more (Ok n) cells all = record { chosen = all.chosen; listed = all.listed }
  counted_more (Err kind) cells all = all

  ranked_more : (r : Result (Option ℕ) TableKind) (cells : List (Result Cell TableKind)) → AreNamed (sound cells)
      → AreNamed (sound (as_cell Ranked r ∷ cells))
  ranked_more (Ok rank) cells all = record { chosen = all.chosen; listed = all.listed }
  ranked_more (Err kind) cells all = all

  abbrev cells_in : (room : ℕ) → List (Column × List ℕ) → List (Result Cell TableKind)
  cells_in room ps = map (λ (p : Column × List ℕ). cell_of asked room p.0 p.1) ps

  pub cells_within : (room : ℕ) (ps : List (Column × List ℕ))
      → AreNamed (sound (map (λ (p : Column × List ℕ). cell_of asked room p.0 p.1) ps))
  cells_within room [] = record { chosen = All-nil IsNamed; listed = All-nil IsNamed }
  cells_within room ((column.PassedOver, text) ∷ ps) =
      let more = cells_within room ps in record { chosen = more.chosen; listed = more.listed }
  cells_within room ((column.Weight, text) ∷ ps) = counted_more (counted room (number text)) (cells_in room ps) (cells_within room ps)
  cells_within room ((column.Candidate c, text) ∷ ps) = ranked_more (rank_in asked text) (cells_in room ps) (cells_within room ps)
  cells_within room ((column.Rank r, text) ∷ ps) =
      said_more (says_in asked text) (cells_in room ps) (text_within text) (cells_within room ps)
  cells_within room ((column.List, text) ∷ ps) =
      let rs = map (says_in asked) (parts text) in
      listed_more (all_of rs) (cells_in room ps)
      (λ says is. list_within (slice_get (filter_map fault_one rs) 0) rs says is (texts_within (parts text)))
      (cells_within room ps)

  -- what is at places
  at_within : (n : ℕ) (says : List (Option Says)) (place : ℕ) → All (IsWithin n) says
      → IsWithin n (get_or says place None)
  at_within n [] place all = tt
  at_within n (s ∷ says) zero all = All-head (IsWithin n) s says all
  at_within n (s ∷ says) (suc place) all = at_within n says place (All-tail (IsWithin n) s says all)

  places_within : (n : ℕ) (says : List (Option Says)) (places : List ℕ) → All (IsWithin n) says
      → All (IsWithin n) (at_places places says)
  places_within n says [] all = All-nil (IsWithin n)
  places_within n says (place ∷ places) all =
      All-cons (IsWithin n) (get_or says place None) (at_places places says) (at_within n says place all)
      (places_within n says places all)

  -- what the ranks of a row say, by its layout
  pub row_within : (l : Layout) (cols : List Column) (cells : List Cell) (columns : ℕ) → columns ≡ length (ranks_of cells)
      → AreNamed cells → All (IsWithin (among l (length asked.candidates) columns)) (said_at l cols cells)
  row_within layout.Ranks cols cells columns is all =
      subst (λ (n : ℕ). All (IsWithin n) (said_up_to MOST_CANDIDATES (ranks_of cells))) (sym is)
      (all_ranks_within MOST_CANDIDATES (ranks_of cells))
  row_within layout.Choices cols cells columns is all =
      places_within (length asked.candidates) (chosen_of cells) (places_of cols) all.chosen
  row_within layout.List cols cells columns is all = all.listed
