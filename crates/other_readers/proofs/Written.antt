-- What csv_text writes, as a table.
use Rattle.std.proofs.Common.{◌≡◌, ◌≢◌, refl, sym, ap, ◌∙◌, ℕ, Bool, true, false, cond, eqb, List, [], ◌∷◌, ◌++◌, ◌||◌, ◌&&◌, map, inl, inr}
use Rattle.std.proofs.Common.{append_assoc, arith, All}
use Rattle.std.proofs.lemmas.Bool.{cases_Bool}
use Rattle.std.proofs.lemmas.List.Elements.{All-head, All-tail}
use Rattle.std.specs.List.{join_with_byte, list_all, list_any}
use Rattle.csv_text.specs.Csv as csv
use Rattle.table_text.specs.Spelling.{AreFields, IsField, Spelled, is_plain, is_text}
use Rattle.other_readers.specs.Laws.{IsWritable, WrittenIsSpelled}

both : (a b : Bool) → (a && b) ≡ true → (a ≡ true) × (b ≡ true)
both true b h = (refl, h)
both false b h = absurd cc

neither : (a b : Bool) → (a || b) ≡ false → (a ≡ false) × (b ≡ false)
neither true b h = absurd cc
neither false b h = (refl, h)

-- a byte of text that needs no quotes
plain_byte : (b : ℕ) → csv.is_mark b ≡ false → is_text b ≡ true → is_plain 44 b ≡ true
plain_byte b unmarked text =
    let last = neither (eqb b 44 || eqb b 34 || eqb b 13) (eqb b 10) unmarked in
    let third = neither (eqb b 44 || eqb b 34) (eqb b 13) last.0 in
    let second = neither (eqb b 44) (eqb b 34) third.0 in
    rw (second.0, second.1, third.1, last.1) (rw (third.1, last.1) at text)

plain_bytes :
    (field : List ℕ) → list_any csv.is_mark field ≡ false → list_all is_text field ≡ true
    → list_all (is_plain 44) field ≡ true
plain_bytes [] unmarked text = refl
plain_bytes (b ∷ field) unmarked text =
    let marks = neither (csv.is_mark b) (list_any csv.is_mark field) unmarked in
    let texts = both (is_text b) (list_all is_text field) text in
    rw (plain_byte b marks.0 texts.0) (plain_bytes field marks.1 texts.1)

written_field : (field : List ℕ) → list_all is_text field ≡ true → IsField 44 field (csv.field_text field)
written_field field text =
    elim (cases_Bool (list_any csv.is_mark field)) [
      | inl marked ↦
          inr (record { spelled = ap (λ (b : Bool). cond b (csv.quoted field) field) marked; bytes = text })
      | inr plain ↦
          inl (record {
            spelled = ap (λ (b : Bool). cond b (csv.quoted field) field) plain;
            bytes = plain_bytes field plain text;
          })
    ]

abbrev joined : List (List ℕ) → List ℕ
joined fields = join_with_byte 44 (map csv.field_text fields)

abbrev AreTexts : List (List ℕ) → Type 0
AreTexts fields = All (λ field. list_all is_text field ≡ true) fields

written_fields :
    (field : List ℕ) (fields : List (List ℕ)) → AreTexts (field ∷ fields)
    → AreFields 44 (field ∷ fields) (joined (field ∷ fields))
written_fields field [] texts = written_field field (All-head (λ f. list_all is_text f ≡ true) field [] texts)
written_fields field (other ∷ fields) texts = (
  csv.field_text field,
  joined (other ∷ fields),
  refl,
  written_field field (All-head (λ f. list_all is_text f ≡ true) field (other ∷ fields) texts),
  written_fields other fields (All-tail (λ f. list_all is_text f ≡ true) field (other ∷ fields) texts),
)

-- only an empty field is written as nothing
no_text : (field : List ℕ) → csv.field_text field ≡ [] → field ≡ []
no_text [] none = refl
no_text (b ∷ field) none =
    elim (cases_Bool (list_any csv.is_mark (b ∷ field))) [
      | inl marked ↦ absurd (some_quotes (sym (ap (λ (m : Bool). cond m (csv.quoted (b ∷ field)) (b ∷ field)) marked) ∙ none))
      | inr plain ↦ sym (ap (λ (m : Bool). cond m (csv.quoted (b ∷ field)) (b ∷ field)) plain) ∙ none
    ]
  where
    some_quotes : csv.quoted (b ∷ field) ≢ []
    some_quotes e = cc

no_front : (front : List ℕ) (b : ℕ) (rest : List ℕ) → front ++ b ∷ rest ≢ []
no_front [] b rest e = cc
no_front (a ∷ front) b rest e = cc

some_bytes : (field : List ℕ) (fields : List (List ℕ)) → field ∷ fields ≢ [] ∷ [] → joined (field ∷ fields) ≢ []
some_bytes field [] no_blank none = no_blank (ap (λ (f : List ℕ). f ∷ []) (no_text field none))
some_bytes field (other ∷ fields) no_blank none = no_front (csv.field_text field) 44 (joined (other ∷ fields)) none

written_record :
    (fields : List (List ℕ)) (records : List (List (List ℕ))) → IsWritable fields
    → Spelled 44 records (csv.csv_text records)
    → Spelled 44 (fields ∷ records) (csv.csv_text (fields ∷ records))
written_record [] records is others = absurd (omega (arith, is.some))
written_record (field ∷ fields) records is others = (
  csv.csv_text records,
  record {
    front = joined (field ∷ fields);
    end = 13 ∷ 10 ∷ [];
    parts = append_assoc (joined (field ∷ fields)) (13 ∷ 10 ∷ []) (csv.csv_text records);
    spelled = written_fields field fields is.bytes;
    some = some_bytes field fields is.no_blank;
    ended = inl (inr refl);
  },
  others,
)

pub written_is_spelled : WrittenIsSpelled
written_is_spelled [] are = refl
written_is_spelled (fields ∷ records) are =
    written_record fields records (All-head IsWritable fields records are)
    (written_is_spelled records (All-tail IsWritable fields records are))
