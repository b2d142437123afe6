-- What a table says of a sheet.
use Rattle.std.proofs.Common.{◌≡◌, ◌∙◌, refl, sym, ap, subst, ℕ, ◌<◌, ◌≤◌, zero, suc, List, [], ◌∷◌, length}
use Rattle.std.proofs.Common.{get_or, map, arith, inl, inr, length-append}
use Rattle.std.specs.Prelude.{◌⊎◌, All}
use Rattle.std.specs.List.{flat_map}
use Rattle.std.proofs.lemmas.List.{ext_get_or}
use Rattle.std.proofs.lemmas.List.Elements.{All-nil, All-cons, All-append, All-head, All-tail}
use Rattle.std.proofs.lemmas.List.FromFn.{get_or-map-range_with_len, length-map-range_with_len}
use Rattle.candidate_roll.specs.State.{state_at}
use Rattle.candidate_roll.specs.declared.state.State.{State}
use Rattle.candidate_roll.specs.declared.state.State.TheVariants.{Withdrawn}
use Rattle.csv_text.specs.Laws.{RecordsReadBack}
use Rattle.csv_text.specs.Reading.{read, Outside}
use Rattle.meek_rule.specs.Row.{Row}
use Rattle.sheet_reader.specs.Form.{IsPrintable, IsPrintableRow}
use Rattle.sheet_reader.specs.Values.{SheetList}
use Rattle.sheet_page.specs.Csv.{csv_head, csv_of, csv_record, csv_records, row_records}
use Rattle.sheet_page.specs.Laws.{TablesAreReadBack, TablesSayTheirSheets, HaveOneTable}
use Rattle.sheet_page.specs.Values.{all_places, name_at}
use Rattle.sheet_page.proofs.AmountTexts.{heads}
use Rattle.sheet_page.proofs.FieldWords.{states_say}
use Rattle.sheet_page.proofs.RecordRuns.{field, IsFresh, same_iterations}
use Rattle.sheet_page.proofs.RowFields.{HaveOneText, row_says}

-- ---- reading

abbrev HasFields : List (List ℕ) → Type 0
HasFields fields = 1 ≤ length fields

all_in_row : (places : ℕ) (v : SheetList) (row : Row) (ps : List ℕ) → All HasFields (map (csv_record places v row) ps)
all_in_row places v row [] = All-nil HasFields
all_in_row places v row (p ∷ ps) =
    All-cons HasFields (csv_record places v row p) (map (csv_record places v row) ps) (omega arith) (all_in_row places v row ps)

all_in_rows : (places : ℕ) (v : SheetList) (rows : List Row) → All HasFields (flat_map (row_records places v) rows)
all_in_rows places v [] = All-nil HasFields
all_in_rows places v (row ∷ rows) =
    All-append HasFields (row_records places v row) (flat_map (row_records places v) rows)
    (all_in_row places v row (all_places (length v.names))) (all_in_rows places v rows)

pub tables_read : RecordsReadBack → TablesAreReadBack
tables_read back places v =
    back (csv_records places v)
    (All-cons HasFields csv_head (flat_map (row_records places v) v.rows) (omega arith) (all_in_rows places v v.rows))

-- ---- the same records

-- the records of n candidates in these iterations
abbrev runs : (places : ℕ) → SheetList → (n : ℕ) → List Row → List (List (List ℕ))
runs places v n rows = flat_map (λ row. map (csv_record places v row) (all_places n)) rows

fresh : (places : ℕ) (v : SheetList) (n : ℕ) (rows : List Row) → 1 ≤ n → IsFresh (runs places v n rows)
fresh places v n [] some = tt
fresh places v zero (row ∷ rows) some = absurd (omega (arith, some))
fresh places v (suc n) (row ∷ rows) some = refl

no_run : (places : ℕ) (v : SheetList) (n : ℕ) (row : Row) (rows : List Row) → 1 ≤ n → [] ≡ runs places v n (row ∷ rows) → ⊥
no_run places v n row rows some e =
    omega (
      arith,
      some,
      ap (λ (l : List (List (List ℕ))). length l) e,
      length-append (map (csv_record places v row) (all_places n)) (runs places v n rows),
      length-map-range_with_len (csv_record places v row) 0 n,
    )

-- so many candidates have one name and one last state in two sheets
abbrev AreOnes : (v w : SheetList) → (n : ℕ) → Type 0
AreOnes v w n = (p : ℕ) → p < n → (name_at v p ≡ name_at w p) × (state_at v.last p ≡ state_at w.last p)

at_place : (f g : ℕ → List (List ℕ)) (n m p : ℕ) → n ≡ m → p < n → map f (all_places n) ≡ map g (all_places m) → f p ≡ g p
at_place f g n m p same below e =
    sym (get_or-map-range_with_len f 0 n p p [] below (omega arith)) ∙ ap (λ (l : List (List (List ℕ))). get_or l p []) e
    ∙ get_or-map-range_with_len g 0 m p p [] (omega (arith, below, same)) (omega arith)

runs_say : (places : ℕ) (v w : SheetList) (n m : ℕ) (rows others : List Row) → 1 ≤ n → n ≤ 250 → 1 ≤ m → m ≤ 250
    → All (IsPrintableRow places n) rows → All (IsPrintableRow places m) others → runs places v n rows ≡ runs places w m others
    → (rows ≡ others) × ((rows ≡ []) ⊎ ((n ≡ m) × AreOnes v w n))
runs_say places v w n m [] [] some few any small is also e = (refl, inl refl)
runs_say places v w n m [] (other ∷ others) some few any small is also e = absurd (no_run places w m other others any e)
runs_say places v w n m (row ∷ rows) [] some few any small is also e = absurd (no_run places v n row rows some (sym e))
runs_say places v w n m (row ∷ rows) (other ∷ others) some few any small is also e =
    let parts =
    same_iterations (csv_record places v row) (csv_record places w other) n m (runs places v n rows) (runs places w m others)
    (λ p. refl) (λ p. refl) some few any small (fresh places v n rows some) (fresh places w m others any) e in
    let same : HaveOneText places v w n row other =
    λ p below. at_place (csv_record places v row) (csv_record places w other) n m p parts.0 below parts.1 in
    let printable =
    subst (λ (k : ℕ). IsPrintableRow places k other) (sym parts.0)
    (All-head (IsPrintableRow places m) other others also) in
    let here = row_says places v w n row other some (All-head (IsPrintableRow places n) row rows is) printable same in
    let more =
    runs_say places v w n m rows others some few any small (All-tail (IsPrintableRow places n) row rows is)
    (All-tail (IsPrintableRow places m) other others also) parts.2 in (
      (λ i. here i ∷ more.0 i),
      inr (
        parts.0,
        λ p below. (
          ap (field 3) (same p below),
          states_say (state_at v.last p) (state_at w.last p) (ap (field 4) (same p below)),
        ),
      ),
    )

-- ---- the same tables

ones :
    (places : ℕ) (v w : SheetList) → IsPrintable places v → IsPrintable places w → length v.names ≡ length w.names
    → AreOnes v w (length v.names) → (v.names ≡ w.names) × (v.last ≡ w.last)
ones places v w is also long same = (
  ext_get_or [] v.names w.names long (λ p below. (same p below).0),
  ext_get_or Withdrawn v.last w.last (is.last ∙ long ∙ sym also.last)
      (λ p below. (same p (omega (arith, below, is.last))).1),
)

said : (places : ℕ) (v w : SheetList) → IsPrintable places v → IsPrintable places w
    → (v.rows ≡ w.rows) × ((v.rows ≡ []) ⊎ ((length v.names ≡ length w.names) × AreOnes v w (length v.names)))
    → HaveOneTable v w
said places v w is also (rows, inl none) = record { iterations = rows; candidates = inl none }
said places v w is also (rows, inr same) = record { iterations = rows; candidates = inr (ones places v w is also same.0 same.1) }

-- the table of these names, last states and iterations
abbrev table : (places : ℕ) (names : List (List ℕ)) → List State → List Row → List ℕ
table places names last rows = csv_of places (record { title = []; seats = 0; ballots = 0; names = names; rows = rows; last = last })

one_table : (places : ℕ) (v w : SheetList) → HaveOneTable v w → csv_of places v ≡ csv_of places w
one_table places v w alike = by alike.candidates
  where
    by : (v.rows ≡ []) ⊎ ((v.names ≡ w.names) × (v.last ≡ w.last)) → csv_of places v ≡ csv_of places w
    by (inl none) = ap (table places v.names v.last) none ∙ sym (ap (table places w.names w.last) (sym alike.iterations ∙ none))
    by (inr (names, last)) = λ i. table places (names i) (last i) (alike.iterations i)

pub tables_say : RecordsReadBack → TablesSayTheirSheets
tables_say back places v w is also = (
  λ e.
      let records = sym (tables_read back places v) ∙ ap (read [] (Outside [])) e ∙ tables_read back places w in
      let rows = (heads csv_head csv_head (flat_map (row_records places v) v.rows) (flat_map (row_records places w) w.rows) records).1 in
      said places v w is also (runs_say places v w (length v.names) (length w.names) v.rows w.rows is.candidates.0
      is.candidates.1 also.candidates.0 also.candidates.1 is.rows also.rows rows),
  one_table places v w,
)
