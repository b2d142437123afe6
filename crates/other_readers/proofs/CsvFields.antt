-- How the reader of csv reads the fields of a record.
use Rattle.std.proofs.Common.{◌≡◌, ◌≢◌, refl, sym, ap, subst, ◌∙◌, ℕ, true, false, eqb, List, [], ◌∷◌, ◌++◌, Some}
use Rattle.std.proofs.Common.{append_assoc, inl, inr}
use Rattle.std.specs.List.{flat_map, list_all}
use Rattle.csv.specs.Machine.{next_record}
use Rattle.csv.specs.declared.parser.State.{State}
use Rattle.csv.specs.declared.parser.State.TheVariants.{InField, StartField, StartRecord}
use Rattle.table_text.specs.Spelling.{AreFields, IsField, is_plain, quoted, within_quotes}
use Rattle.other_readers.specs.Laws.{parted_by}
use Rattle.other_readers.proofs.Bytes.{IsApart, first_plain}
use Rattle.other_readers.proofs.CsvSteps.{IsUnquoted, IsWithin, at_front, at_record, at_separator, behind_quote}
use Rattle.other_readers.proofs.CsvSteps.{plain_bytes, quoted_bytes}

-- a field without quotes
plain_field :
    (separator : ℕ) (fields : List (List ℕ)) (field rest : List ℕ) → list_all (is_plain separator) field ≡ true
    → IsUnquoted rest
    → next_record (parted_by separator) StartField fields [] (field ++ rest)
    ≡ next_record (parted_by separator) InField fields field rest
plain_field separator fields [] rest all unquoted = at_front separator fields rest unquoted
plain_field separator fields (b ∷ bytes) rest all unquoted =
    at_front separator fields (b ∷ bytes ++ rest) (first_plain separator b bytes all).quotes
    ∙ plain_bytes separator fields [] (b ∷ bytes) rest all

-- a field within quotes
quoted_field :
    (separator : ℕ) (fields : List (List ℕ)) (field rest : List ℕ) → IsUnquoted rest
    → next_record (parted_by separator) StartField fields [] (quoted field ++ rest)
    ≡ next_record (parted_by separator) InField fields field rest
unfolding next_record
quoted_field separator fields field rest unquoted =
    ap (λ (l : List ℕ). next_record (parted_by separator) StartField fields [] (34 ∷ l))
    (append_assoc (flat_map within_quotes field) (34 ∷ []) rest)
    ∙ quoted_bytes separator fields [] field rest
    ∙ behind_quote separator fields field rest unquoted

pub any_field :
    (separator : ℕ) (fields : List (List ℕ)) (field text rest : List ℕ) → IsField separator field text
    → IsUnquoted rest
    → next_record (parted_by separator) StartField fields [] (text ++ rest)
    ≡ next_record (parted_by separator) InField fields field rest
any_field separator fields field text rest (inl is) unquoted =
    ap (λ (t : List ℕ). next_record (parted_by separator) StartField fields [] (t ++ rest)) is.spelled
    ∙ plain_field separator fields field rest is.bytes unquoted
any_field separator fields field text rest (inr is) unquoted =
    ap (λ (t : List ℕ). next_record (parted_by separator) StartField fields [] (t ++ rest)) is.spelled
    ∙ quoted_field separator fields field rest unquoted

-- the first byte of a field ends no line
pub first_byte :
    (separator b : ℕ) (field bytes : List ℕ) → IsField separator field (b ∷ bytes)
    → (eqb b 13 ≡ false) × (eqb b 10 ≡ false)
first_byte separator b field bytes (inl is) =
    let all = subst (λ (l : List ℕ). list_all (is_plain separator) l ≡ true) (sym is.spelled) is.bytes in
    let inner = first_plain separator b bytes all in
    (inner.returns, inner.feeds)
first_byte separator b field bytes (inr is) =
    let quote : 34 ≡ b = sym cc in
    subst (λ (q : ℕ). (eqb q 13 ≡ false) × (eqb q 10 ≡ false)) quote (refl, refl)

module _ (separator : ℕ) (is_apart : IsApart separator) (tail : List ℕ) where
  -- a separator after a field's text
  behind_text :
      (b : ℕ) (field text rest : List ℕ) → IsField separator field text → eqb b 13 ≡ false → eqb b 10 ≡ false
      → IsWithin ((text ++ b ∷ rest) ++ tail)
  behind_text b field [] rest is no_return no_feed = (no_return, no_feed)
  behind_text b field (first ∷ text) rest is no_return no_feed = first_byte separator first field text is

  -- fields of at least one byte go on within a record
  pub fields_within :
      (fields : List (List ℕ)) (text : List ℕ) → AreFields separator fields text → text ≢ []
      → IsWithin (text ++ tail)
  fields_within [] text are some = absurd are
  fields_within (field ∷ []) [] are some = absurd (some refl)
  fields_within (field ∷ []) (b ∷ text) are some = first_byte separator b field text are
  fields_within (field ∷ other ∷ fields) text are some =
      subst (λ (t : List ℕ). IsWithin (t ++ tail)) (sym are.2)
      (behind_text separator field are.0 are.1 are.3 is_apart.returns is_apart.feeds)

  module _ (state : State) (left : List ℕ)
      (ends : (fields : List (List ℕ)) (field : List ℕ)
      → next_record (parted_by separator) InField fields field tail ≡ Some (fields ++ field ∷ [], state, left))
      (unquoted : IsUnquoted tail)
    where
      -- all fields up to the end of their record
      pub all_fields :
          (before fields : List (List ℕ)) (text : List ℕ) → AreFields separator fields text
          → next_record (parted_by separator) StartField before [] (text ++ tail)
          ≡ Some (before ++ fields, state, left)
      all_fields before [] text are = absurd are
      all_fields before (field ∷ []) text are = any_field separator before field text tail are unquoted ∙ ends before field
      all_fields before (field ∷ other ∷ fields) text are =
          let front = are.0 in
          let rest = are.1 in
          ap (λ (t : List ℕ). next_record (parted_by separator) StartField before [] (t ++ tail)) are.2
          ∙ ap (λ (t : List ℕ). next_record (parted_by separator) StartField before [] t)
          (append_assoc front (separator ∷ rest) tail)
          ∙ any_field separator before field front (separator ∷ (rest ++ tail)) are.3 is_apart.quotes
          ∙ at_separator separator before field (rest ++ tail)
          ∙ all_fields (before ++ field ∷ []) (other ∷ fields) rest are.4
          ∙ ap (λ (all : List (List ℕ)). Some (all, state, left)) (append_assoc before (field ∷ []) (other ∷ fields))

      -- a record from its first byte on
      pub whole_record :
          (fields : List (List ℕ)) (text : List ℕ) → AreFields separator fields text → text ≢ []
          → next_record (parted_by separator) StartRecord [] [] (text ++ tail) ≡ Some (fields, state, left)
      whole_record fields text are some =
          at_record separator (text ++ tail) (fields_within fields text are some)
          ∙ all_fields [] fields text are
