-- The cells of a row, one after another.
use Rattle.std.proofs.Common.{◌≡◌, ℕ, ◌+◌, ◌<◌, ◌≤◌, Bool, true, false, cond, leb, List, [], ◌∷◌, ◌++◌, map, drop, length}
use Rattle.std.proofs.Common.{Option, Some, None, Result, Ok, Err, get_or, refl, ap, sym, ◌∙◌, subst, arith}
use Rattle.std.proofs.Common.{append_assoc, add-one, sum_by}
use Rattle.std.specs.List.{filter_map, enumerate_from, cons_option, slice_get, zip}
use Rattle.std.specs.Option.{option_or, unwrap_or}
use Rattle.std.proofs.Math.Seq.{drop-cons}
use Rattle.std.proofs.lemmas.List.{append-nil, drop_all, get_or_default}
use Rattle.std.proofs.lemmas.Slice.Zip.{length-zip, get_or-zip}
use Rattle.ballot_marks.specs.declared.says.Says.{Says}
use Rattle.ballot_table.specs.declared.column.Column.{Column}
use Rattle.ballot_table.specs.declared.column.Column.TheVariants.{Weight, PassedOver, Candidate, Rank, List as Lists}
use Rattle.ballot_table.specs.declared.fault.Fault.{Fault}
use Rattle.ballot_table.specs.declared.row_cells.RowCells.{RowCells}
use Rattle.ballot_table.specs.declared.table_kind.TableKind.{TableKind}
use Rattle.ballot_table.specs.declared.table_kind.TableKind.TheVariants.{TooManyBallots}
use Rattle.ballot_table.specs.Asked.{Asked}
use Rattle.ballot_table.specs.Cells.{Cell, Nothing, Counts, Ranked, Said, Listed, cell_of, as_cell, counted}
use Rattle.ballot_table.specs.Cells.{rank_in, says_in, all_of, fault_one}
use Rattle.ballot_table.specs.Faults.{fault_of, first_fault, sound}
use Rattle.ballot_table.specs.Held.{IsHolding}
use Rattle.ballot_table.specs.Finding.{IsTaken, AreTaken, candidates_at}
use Rattle.ballot_table.specs.Rows.{weight_in, cells_of, ranks_of, rank_cell, chosen_cell, chosen_of, listed_cell, listed_of}
use Rattle.ballot_table.specs.Said.{IsSaying}
use Rattle.ballot_table.specs.Texts.{number, parts}

abbrev pub Pair : Type 0
Pair = Column × List ℕ

-- a cell without a fault says something
pub is_sound : {X : Type 0} (r : Result X TableKind) → None ≡ fault_one r → (x : X) × (r ≡ Ok x)
is_sound (Ok x) is = (x, refl)
is_sound (Err kind) is = absurd (cc is)

pub is_faulty : {X : Type 0} (r : Result X TableKind) (kind : TableKind) → Some kind ≡ fault_one r → r ≡ Err kind
is_faulty (Ok x) kind is = absurd (cc is)
is_faulty (Err other) kind is = let e : other ≡ kind = cc is in ap Err e

-- the first fault of fields from a place on
abbrev pub fault_from : ℕ → List (Result Cell TableKind) → Option Fault
fault_from place fields = slice_get (filter_map fault_of (enumerate_from place fields)) 0

-- the number of ballots in a cell
abbrev weight_of : Cell → Option ℕ
weight_of (Counts n) = Some n
weight_of other = None

weighs_if : (n : ℕ) (x : Cell) (b : Bool) → as_cell Counts (cond b (Ok n) (Err TooManyBallots)) ≡ Ok x
    → Some n ≡ weight_of x
weighs_if n x true is = let e : Counts n ≡ x = cc is in ap weight_of e
weighs_if n x false is = absurd (cc is)

weighs : (room : ℕ) (o : Option ℕ) (x : Cell) → as_cell Counts (counted room o) ≡ Ok x
    → Some (unwrap_or o 0) ≡ weight_of x
weighs room None x is = absurd (cc is)
weighs room (Some n) x is = weighs_if n x (leb n room) is

weighs_nothing : (r : Result (Option ℕ) TableKind) (x : Cell) → as_cell Ranked r ≡ Ok x → None ≡ weight_of x
weighs_nothing (Ok rank) x is = let e : Ranked rank ≡ x = cc is in ap weight_of e
weighs_nothing (Err kind) x is = absurd (cc is)

said_weighs_nothing : (r : Result (Option Says) TableKind) (x : Cell) → as_cell Said r ≡ Ok x → None ≡ weight_of x
said_weighs_nothing (Ok says) x is = let e : Said says ≡ x = cc is in ap weight_of e
said_weighs_nothing (Err kind) x is = absurd (cc is)

list_weighs_nothing : (r : Result (List (Option Says)) TableKind) (x : Cell) → as_cell Listed r ≡ Ok x
    → None ≡ weight_of x
list_weighs_nothing (Ok says) x is = let e : Listed says ≡ x = cc is in ap weight_of e
list_weighs_nothing (Err kind) x is = absurd (cc is)

weight_is : (asked : Asked) (room : ℕ) (column : Column) (text : List ℕ) (x : Cell)
    → cell_of asked room column text ≡ Ok x → weight_in (column, text) ≡ weight_of x
weight_is asked room Weight text x is = weighs room (number text) x is
weight_is asked room PassedOver text x is = let e : Nothing ≡ x = cc is in ap weight_of e
weight_is asked room (Candidate c) text x is = weighs_nothing (rank_in asked text) x is
weight_is asked room (Rank r) text x is = said_weighs_nothing (says_in asked text) x is
weight_is asked room Lists text x is = list_weighs_nothing (all_of (map (says_in asked) (parts text))) x is

first_weight : (o : Option ℕ) (ws : List ℕ) → slice_get (cons_option o ws) 0 ≡ option_or o (slice_get ws 0)
first_weight None ws = refl
first_weight (Some n) ws = refl

or_or : (a b c : Option ℕ) → option_or a (option_or b c) ≡ option_or (option_or a b) c
or_or None b c = refl
or_or (Some n) b c = refl

or_none : (a : Option ℕ) → option_or a None ≡ a
or_none None = refl
or_none (Some n) = refl

-- what a cell counts after others
count_taken : (x : Cell) (old new : RowCells) → IsTaken (Some x) old new
    → option_or old.count (weight_of x) ≡ new.count
count_taken Nothing old new is = or_none old.count ∙ sym (ap (λ (c : RowCells). c.count) is)
count_taken (Counts n) old new is = sym is.3
count_taken (Ranked rank) old new is = or_none old.count ∙ sym is.0
count_taken (Said says) old new is = or_none old.count ∙ sym is.0
count_taken (Listed says) old new is = or_none old.count ∙ sym is.0

-- the ranks that cells say, with one cell more
holding_taken : (x : Cell) (old new : RowCells) (ranks : List (Option ℕ)) → IsTaken (Some x) old new
    → IsHolding ranks old.holders → IsHolding (ranks ++ rank_cell x) new.holders
holding_taken Nothing old new ranks is holding =
    subst (λ (rs : List (Option ℕ)). IsHolding rs new.holders) (sym (append-nil ranks))
    (subst (λ (c : RowCells). IsHolding ranks c.holders) (sym is) holding)
holding_taken (Counts n) old new ranks is holding =
    subst (λ (rs : List (Option ℕ)). IsHolding rs new.holders) (sym (append-nil ranks))
    (subst (IsHolding ranks) (sym is.0) holding)
holding_taken (Ranked rank) old new ranks is holding = is.3 ranks holding
holding_taken (Said says) old new ranks is holding =
    subst (λ (rs : List (Option ℕ)). IsHolding rs new.holders) (sym (append-nil ranks))
    (subst (IsHolding ranks) (sym is.1) holding)
holding_taken (Listed says) old new ranks is holding =
    subst (λ (rs : List (Option ℕ)). IsHolding rs new.holders) (sym (append-nil ranks))
    (subst (IsHolding ranks) (sym is.1) holding)

-- what lists say of ranks from the first on, with one cell more
no_more_said : (says : List (Option Says)) (old new : RowCells) → new.said ≡ old.said → IsSaying says old.said
    → IsSaying (says ++ []) new.said
no_more_said says old new same saying =
    subst (λ (l : List (Option Says)). IsSaying l new.said) (sym (append-nil says)) (subst (IsSaying says) (sym same) saying)

saying_taken : (x : Cell) (old new : RowCells) (says : List (Option Says)) → IsTaken (Some x) old new
    → IsSaying says old.said → IsSaying (says ++ listed_cell x) new.said
saying_taken Nothing old new says is saying = no_more_said says old new (ap (λ (c : RowCells). c.said) is) saying
saying_taken (Counts n) old new says is saying = no_more_said says old new is.1 saying
saying_taken (Ranked rank) old new says is saying = no_more_said says old new is.1 saying
saying_taken (Said one) old new says is saying = no_more_said says old new is.2 saying
saying_taken (Listed more) old new says is saying = is.3 says saying

-- what the columns of ranks say, with one cell more
chosen_taken : (x : Cell) (old new : RowCells) → IsTaken (Some x) old new
    → old.chosen.items ++ chosen_cell x ≡ new.chosen.items
chosen_taken Nothing old new is = append-nil old.chosen.items ∙ sym (ap (λ (c : RowCells). c.chosen.items) is)
chosen_taken (Counts n) old new is = append-nil old.chosen.items ∙ sym is.2
chosen_taken (Ranked rank) old new is = append-nil old.chosen.items ∙ sym is.2
chosen_taken (Said one) old new is = sym is.3
chosen_taken (Listed more) old new is = append-nil old.chosen.items ∙ sym is.2

-- The cells of a row are read up to these that are left.
pub record IsReading (asked : Asked) (room : ℕ) (ps left : List Pair) (at : ℕ) (cells : RowCells) : Type 0 where
  pub fault : fault_from 1 (map (λ (p : Pair). cell_of asked room p.0 p.1) ps)
      ≡ fault_from (at + 1) (map (λ (p : Pair). cell_of asked room p.0 p.1) left)
  pub count : slice_get (filter_map weight_in ps) 0 ≡ option_or cells.count (slice_get (filter_map weight_in left) 0)
  pub ranks : List (Option ℕ)
  pub holding : IsHolding ranks cells.holders
  pub all : ranks_of (sound (map (λ (p : Pair). cell_of asked room p.0 p.1) ps))
      ≡ ranks ++ ranks_of (sound (map (λ (p : Pair). cell_of asked room p.0 p.1) left))
  pub says : List (Option Says)
  pub saying : IsSaying says cells.said
  pub all_said : listed_of (sound (map (λ (p : Pair). cell_of asked room p.0 p.1) ps))
      ≡ says ++ listed_of (sound (map (λ (p : Pair). cell_of asked room p.0 p.1) left))
  pub chosen : chosen_of (sound (map (λ (p : Pair). cell_of asked room p.0 p.1) ps))
      ≡ cells.chosen.items ++ chosen_of (sound (map (λ (p : Pair). cell_of asked room p.0 p.1) left))

pub reading_begun : (asked : Asked) (room : ℕ) (ps : List Pair) (cells : RowCells) → cells.count ≡ None
    → IsHolding [] cells.holders → cells.chosen.items ≡ [] → IsSaying [] cells.said → IsReading asked room ps ps 0 cells
reading_begun asked room ps cells none holding unchosen saying = record {
  fault = refl;
  count = sym (ap (λ o. option_or o (slice_get (filter_map weight_in ps) 0)) none);
  ranks = [];
  holding = holding;
  all = refl;
  says = [];
  saying = saying;
  all_said = refl;
  chosen =
      ap (λ (l : List (Option Says)). l ++ chosen_of (sound (map (λ (p : Pair). cell_of asked room p.0 p.1) ps))) (sym unchosen);
}

module _ (asked : Asked) (room : ℕ) (ps : List Pair) (column : Column) (text : List ℕ) (rest : List Pair) (at : ℕ) where
  abbrev cell : Pair → Result Cell TableKind
  cell p = cell_of asked room p.0 p.1

  pub reading_fault : (cells : RowCells) (kind : TableKind)
      → IsReading asked room ps ((column, text) ∷ rest) at cells → cell_of asked room column text ≡ Err kind
      → fault_from 1 (map cell ps) ≡ Some (record { kind = kind; place = at + 1 })
  reading_fault cells kind so_far is =
      so_far.fault ∙ ap (λ r. fault_from (at + 1) (r ∷ map cell rest)) is

  pub reading_more : (x : Cell) (old new : RowCells) → IsReading asked room ps ((column, text) ∷ rest) at old
      → cell_of asked room column text ≡ Ok x → IsTaken (Some x) old new
      → IsReading asked room ps rest (at + 1) new
  reading_more x old new so_far is taken = record {
    fault = so_far.fault ∙ ap (λ r. fault_from (at + 1) (r ∷ map cell rest)) is;
    count =
        let ws = filter_map weight_in rest in
        so_far.count
        ∙ ap (λ o. option_or old.count (slice_get (cons_option o ws) 0)) (weight_is asked room column text x is)
        ∙ ap (option_or old.count) (first_weight (weight_of x) ws)
        ∙ or_or old.count (weight_of x) (slice_get ws 0)
        ∙ ap (λ o. option_or o (slice_get ws 0)) (count_taken x old new taken);
    ranks = so_far.ranks ++ rank_cell x;
    holding = holding_taken x old new so_far.ranks taken so_far.holding;
    all =
        so_far.all
        ∙ ap (λ r. so_far.ranks ++ ranks_of (sound (r ∷ map cell rest))) is
        ∙ sym (append_assoc so_far.ranks (rank_cell x) (ranks_of (sound (map cell rest))));
    says = so_far.says ++ listed_cell x;
    saying = saying_taken x old new so_far.says taken so_far.saying;
    all_said =
        so_far.all_said
        ∙ ap (λ r. so_far.says ++ listed_of (sound (r ∷ map cell rest))) is
        ∙ sym (append_assoc so_far.says (listed_cell x) (listed_of (sound (map cell rest))));
    chosen =
        so_far.chosen
        ∙ ap (λ r. old.chosen.items ++ chosen_of (sound (r ∷ map cell rest))) is
        ∙ sym (append_assoc old.chosen.items (chosen_cell x) (chosen_of (sound (map cell rest))))
        ∙ ap (λ (l : List (Option Says)). l ++ chosen_of (sound (map cell rest))) (chosen_taken x old new taken);
  }

-- a row's next pair of a column and a text
pub next_pair : (columns : List Column) (texts : List (List ℕ)) (at : ℕ) (column : Column) (text : List ℕ)
    → at < length columns → length texts ≡ length columns → column ≡ get_or columns at column
    → text ≡ get_or texts at text
    → drop at (zip columns texts) ≡ (column, text) ∷ drop (at + 1) (zip columns texts)
next_pair columns texts at column text inside same column_is text_is =
    let within : at < length texts = omega arith in
    let long = length-zip columns texts in
    let there : at < length (zip columns texts) = omega (arith, long) in
    drop-cons (zip columns texts) at (column, text) there
    ∙ ap (λ n. get_or (zip columns texts) at (column, text) ∷ drop n (zip columns texts)) (sym (add-one at))
    ∙ ap (λ p. p ∷ drop (at + 1) (zip columns texts))
    (get_or-zip columns texts at (column, text) inside within
    ∙ ap (λ c. (c, get_or texts at text)) (sym column_is) ∙ ap (λ t. (column, t)) (sym text_is))

-- the next pair is the first that is left
pub turned : (asked : Asked) (room : ℕ) (columns : List Column) (texts : List (List ℕ)) (at : ℕ) (text : List ℕ)
    (cells : RowCells) → at < length columns → length texts ≡ length columns → text ≡ get_or texts at text
    → IsReading asked room (zip columns texts) (drop at (zip columns texts)) at cells
    → IsReading asked room (zip columns texts)
    ((get_or columns at Weight, text) ∷ drop (at + 1) (zip columns texts)) at cells
turned asked room columns texts at text cells inside same text_is so_far =
    subst (λ l. IsReading asked room (zip columns texts) l at cells)
    (next_pair columns texts at (get_or columns at Weight) text inside same
    (get_or_default columns at Weight (get_or columns at Weight) inside) text_is)
    so_far

-- after the last cell
module _ (asked : Asked) (room : ℕ) (columns : List Column) (texts : List (List ℕ)) (at : ℕ) (cells : RowCells)
    (end : length columns ≤ at)
    (so_far : IsReading asked room (zip columns texts) (drop at (zip columns texts)) at cells)
  where
    no_pairs : drop at (zip columns texts) ≡ []
    no_pairs = let long = length-zip columns texts in drop_all at (zip columns texts) (omega (arith, long))

    pub no_fault : first_fault (cells_of asked room columns texts) ≡ None
    no_fault =
        so_far.fault
        ∙ ap (λ (l : List Pair). fault_from (at + 1) (map (λ (p : Pair). cell_of asked room p.0 p.1) l))
        no_pairs

    count_is : slice_get (filter_map weight_in (zip columns texts)) 0 ≡ cells.count
    count_is =
        so_far.count
        ∙ ap (λ (l : List Pair). option_or cells.count (slice_get (filter_map weight_in l) 0)) no_pairs
        ∙ or_none cells.count

    pub all_read : cells.holders.candidates ≡ sum_by candidates_at columns → AreTaken asked room columns texts cells
    all_read candidates = record {
      weight = sym (ap (λ o. unwrap_or o 0) count_is);
      count = sym (ap (λ o. unwrap_or o 1) count_is);
      holding = subst (λ (rs : List (Option ℕ)). IsHolding rs cells.holders)
          (sym (so_far.all
          ∙ ap (λ (l : List Pair). so_far.ranks
          ++ ranks_of (sound (map (λ (p : Pair). cell_of asked room p.0 p.1) l))) no_pairs
          ∙ append-nil so_far.ranks))
          so_far.holding;
      chosen =
          sym (so_far.chosen
          ∙ ap (λ (l : List Pair). cells.chosen.items
          ++ chosen_of (sound (map (λ (p : Pair). cell_of asked room p.0 p.1) l))) no_pairs
          ∙ append-nil cells.chosen.items);
      saying = subst (λ (l : List (Option Says)). IsSaying l cells.said)
          (sym (so_far.all_said
          ∙ ap (λ (l : List Pair). so_far.says
          ++ listed_of (sound (map (λ (p : Pair). cell_of asked room p.0 p.1) l))) no_pairs
          ∙ append-nil so_far.says))
          so_far.saying;
      candidates = candidates;
    }
