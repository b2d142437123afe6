-- A table without a fault has all candidates whom the words withdraw.
use Rattle.std.proofs.Common.{◌≡◌, ◌∙◌, refl, sym, ap, subst, ℕ, ◌≤◌, Bool, true, false, cond, Option, Some, None}
use Rattle.std.proofs.Common.{List, ◌∷◌, length, map, All, arith}
use Rattle.std.specs.Prelude.{◌==◌, ◌||◌, nat_lt, position, Ok}
use Rattle.std.specs.List.{filter_map, position_or_len, slice_get, zip}
use Rattle.std.specs.Option.{option_map, option_or}
use Rattle.std.proofs.lemmas.Bool.{true≢false, ltb-false, eqb-false}
use Rattle.std.proofs.lemmas.List.Elements.{All-from_get_or, All-weaker}
use Rattle.std.proofs.lemmas.List.Sums.{fails_before_first}
use Rattle.table_text.specs.Reading as text
use Rattle.ballot_table.specs.declared.imported.Imported.{Imported}
use Rattle.ballot_table.specs.declared.table_asked.TableAsked.{TableAsked}
use Rattle.ballot_table.specs.declared.table_kind.TableKind.TheVariants.{BadWithdrawn}
use Rattle.ballot_table.specs.Asked.{Asked, asked_of}
use Rattle.ballot_table.specs.Faults.{first_fault}
use Rattle.ballot_table.specs.Head.{bad_withdrawn, column_expected, columns, columns_of, fault_at, head_fault, names_of, no_column}
use Rattle.ballot_table.specs.Imported.{IsImported, record_stop, refusal, stop_at, stop_by, stop_under, text_stop, texts_in}
use Rattle.ballot_table.specs.Refusals.{faults_below}

or_none : {X : Type 0} (a b : Option X) → option_or a b ≡ None → (a ≡ None) × (b ≡ None)
or_none None b is = (refl, is)
or_none (Some x) b is = absurd (cc is)

map_none : {X Y : Type 0} (f : X → Y) (o : Option X) → option_map f o ≡ None → o ≡ None
map_none f None is = refl
map_none f (Some x) is = absurd (cc is)

neither : (a b : Bool) → (a || b) ≡ false → (a ≡ false) × (b ≡ false)
neither true b is = absurd (true≢false is)
neither false b is = (refl, is)

not_there : (b : Bool) (n : ℕ) → cond b (Some n) None ≡ None → b ≡ false
not_there true n is = absurd (cc is)
not_there false n is = refl

-- what no element passes has no position
no_position :
    {X : Type 0} (p : X → Bool) (xs : List X) (d : X) → position p xs ≡ None → All (λ x. p x ≡ false) xs
no_position p xs d none =
    let at = position_or_len p xs in
    let past : length xs ≤ at = ltb-false at (length xs) (not_there (nat_lt at (length xs)) at none) in
    All-from_get_or (λ x. p x ≡ false) xs d (λ i within. fails_before_first p xs i d (omega arith))

-- the first of some without a fault has none
head_none :
    {R F S : Type 0} (at : R → F → S) (row : R) (fault : Option F) (rows : List R) (faults : List (Option F))
    → slice_get (filter_map (λ p. option_map (at p.0) p.1) (zip (row ∷ rows) (fault ∷ faults))) 0 ≡ None → fault ≡ None
head_none at row None rows faults is = refl
head_none at row (Some fault) rows faults is = absurd (cc is)

module _ (asked : TableAsked) where
  head_sound :
      (bytes : List ℕ) (table : Imported) (is : IsImported asked bytes table) → refusal asked bytes ≡ None
      → head_fault (asked_of asked) is.head.names ≡ None
  head_sound bytes table is none =
      let reading = text.read_text is.byte bytes in
      let read : stop_by asked bytes (Ok is.byte) ≡ None = sym (ap (stop_by asked bytes) is.separated) ∙ none in
      let whole = sym (ap (stop_under asked reading) is.records) ∙ read in
      let first : record_stop asked is.head ≡ None = (or_none (record_stop asked is.head) (text_stop reading.ending) whole).0 in
      let all = asked_of asked in
      head_none stop_at is.head.told (head_fault all is.head.names) is.head.below
      (faults_below all asked.treatment asked.empty (columns all is.head.names) (map texts_in is.head.below)) first

-- a number that is not refused is a candidate's
candidate : (n c : ℕ) → (c == 0 || nat_lt n c) ≡ false → (1 ≤ c) × (c ≤ n)
candidate n c is =
    let parts = neither (c == 0) (nat_lt n c) is in
    let some : c ≡ 0 → ⊥ = eqb-false c 0 parts.0 in
    (positive c some, ltb-false n c parts.1)
  where
    positive : (m : ℕ) → (m ≡ 0 → ⊥) → 1 ≤ m
    positive m not = omega (arith, not)

withdrawn_in :
    (asked : Asked) (texts : List (List ℕ)) → head_fault asked texts ≡ None
    → All (λ c. (1 ≤ c) × (c ≤ length (names_of asked texts))) asked.withdrawn
withdrawn_in asked texts none =
    let n = length (names_of asked texts) in
    let behind = (or_none (first_fault (columns_of asked texts))
    (option_or (no_column asked texts) (option_or (column_expected asked texts) (bad_withdrawn asked texts))) none).1 in
    let further = (or_none (no_column asked texts) (option_or (column_expected asked texts) (bad_withdrawn asked texts)) behind).1 in
    let last = (or_none (column_expected asked texts) (bad_withdrawn asked texts) further).1 in
    let nowhere = map_none (fault_at BadWithdrawn) (position (λ c. c == 0 || nat_lt n c) asked.withdrawn) last in
    All-weaker (λ c. (c == 0 || nat_lt n c) ≡ false) (λ c. (1 ≤ c) × (c ≤ n)) (candidate n) asked.withdrawn
    (no_position (λ c. c == 0 || nat_lt n c) asked.withdrawn 0 nowhere)

pub withdrawn_are_candidates :
    (asked : TableAsked) (bytes : List ℕ) (table : Imported) → IsImported asked bytes table → refusal asked bytes ≡ None
    → All (λ c. (1 ≤ c) × (c ≤ length table.names)) asked.withdrawn
withdrawn_are_candidates asked bytes table is none =
    subst (λ (names : List (List ℕ)). All (λ c. (1 ≤ c) × (c ≤ length names)) asked.withdrawn) (sym is.names)
    (withdrawn_in (asked_of asked) is.head.names (head_sound asked bytes table is none))
