-- How the reader of csv goes on, byte by byte.
use Rattle.std.proofs.Common.{◌≡◌, refl, sym, ap, subst, ◌∙◌, ℕ, true, false, eqb, List, [], ◌∷◌, ◌++◌, Some, None}
use Rattle.std.proofs.Common.{append_assoc, append-nil, inl, inr}
use Rattle.std.specs.Prelude.{⊤}
use Rattle.std.proofs.lemmas.Bool.Decides.{eqb_tells}
use Rattle.std.specs.List.{flat_map, list_all}
use Rattle.csv.specs.Machine.{next_record}
use Rattle.csv.specs.declared.parser.State.TheVariants.{AfterCr, AfterQuote, InField, InQuoted, StartField, StartRecord}
use Rattle.table_text.specs.Spelling.{is_plain, within_quotes}
use Rattle.other_readers.specs.Laws.{parted_by}
use Rattle.other_readers.proofs.Bytes.{first_plain, others_plain}

-- a text that begins with no quote
abbrev pub IsUnquoted : List ℕ → Type 0
IsUnquoted [] = ⊤
IsUnquoted (b ∷ rest) = eqb b 34 ≡ false

-- a text that goes on within a record
abbrev pub IsWithin : List ℕ → Type 0
IsWithin [] = ⊥
IsWithin (b ∷ rest) = (eqb b 13 ≡ false) × (eqb b 10 ≡ false)

-- bytes without marks go into the field
pub plain_bytes :
    (separator : ℕ) (fields : List (List ℕ)) (field bytes rest : List ℕ)
    → list_all (is_plain separator) bytes ≡ true
    → next_record (parted_by separator) InField fields field (bytes ++ rest)
    ≡ next_record (parted_by separator) InField fields (field ++ bytes) rest
unfolding next_record
plain_bytes separator fields field [] rest all = rw (append-nil field) refl
plain_bytes separator fields field (b ∷ bytes) rest all =
    let is = first_plain separator b bytes all in
    rw (is.parts, is.returns, is.feeds)
    (plain_bytes separator fields (field ++ b ∷ []) bytes rest (others_plain separator b bytes all)
    ∙ ap (λ (f : List ℕ). next_record (parted_by separator) InField fields f rest) (append_assoc field (b ∷ []) bytes))

-- a byte within quotes goes into the field, a doubled quote once
one_quoted :
    (separator : ℕ) (fields : List (List ℕ)) (field : List ℕ) (b : ℕ) (rest : List ℕ)
    → next_record (parted_by separator) InQuoted fields field (within_quotes b ++ rest)
    ≡ next_record (parted_by separator) InQuoted fields (field ++ b ∷ []) rest
unfolding next_record
one_quoted separator fields field b rest =
    elim (eqb_tells b 34) [
      | inl quote ↦
          subst (λ (q : ℕ). next_record (parted_by separator) InQuoted fields field (within_quotes q ++ rest)
          ≡ next_record (parted_by separator) InQuoted fields (field ++ q ∷ []) rest) (sym quote.1) refl
      | inr other ↦ rw other.0 (rw other.0 refl)
    ]

pub quoted_bytes :
    (separator : ℕ) (fields : List (List ℕ)) (field bytes rest : List ℕ)
    → next_record (parted_by separator) InQuoted fields field (flat_map within_quotes bytes ++ 34 ∷ rest)
    ≡ next_record (parted_by separator) AfterQuote fields (field ++ bytes) rest
unfolding next_record
quoted_bytes separator fields field [] rest = rw (append-nil field) refl
quoted_bytes separator fields field (b ∷ bytes) rest =
    let others = flat_map within_quotes bytes in
    ap (λ (l : List ℕ). next_record (parted_by separator) InQuoted fields field l)
    (append_assoc (within_quotes b) others (34 ∷ rest))
    ∙ one_quoted separator fields field b (others ++ 34 ∷ rest)
    ∙ quoted_bytes separator fields (field ++ b ∷ []) bytes rest
    ∙ ap (λ (f : List ℕ). next_record (parted_by separator) AfterQuote fields f rest) (append_assoc field (b ∷ []) bytes)

-- after a closing quote what is no quote does as it does in a field
pub behind_quote :
    (separator : ℕ) (fields : List (List ℕ)) (field rest : List ℕ) → IsUnquoted rest
    → next_record (parted_by separator) AfterQuote fields field rest
    ≡ next_record (parted_by separator) InField fields field rest
unfolding next_record
behind_quote separator fields field [] unquoted = refl
behind_quote separator fields field (b ∷ rest) unquoted = rw unquoted refl

-- and so at the front of a field
pub at_front :
    (separator : ℕ) (fields : List (List ℕ)) (rest : List ℕ) → IsUnquoted rest
    → next_record (parted_by separator) StartField fields [] rest
    ≡ next_record (parted_by separator) InField fields [] rest
unfolding next_record
at_front separator fields [] unquoted = refl
at_front separator fields (b ∷ rest) unquoted = rw unquoted refl

-- what ends no record begins one as it begins a field
pub at_record :
    (separator : ℕ) (rest : List ℕ) → IsWithin rest
    → next_record (parted_by separator) StartRecord [] [] rest
    ≡ next_record (parted_by separator) StartField [] [] rest
unfolding next_record
at_record separator [] is = absurd is
at_record separator (b ∷ rest) is = rw (is.0, is.1) refl

-- the separator ends the field
pub at_separator :
    (separator : ℕ) (fields : List (List ℕ)) (field rest : List ℕ)
    → next_record (parted_by separator) InField fields field (separator ∷ rest)
    ≡ next_record (parted_by separator) StartField (fields ++ field ∷ []) [] rest
unfolding next_record
at_separator separator fields field rest =
    elim (eqb_tells separator separator) [
      | inl same ↦ rw same.0 refl
      | inr other ↦ absurd (other.1 refl)
    ]

-- a line feed ends the record
pub at_feed :
    (separator : ℕ) (fields : List (List ℕ)) (field rest : List ℕ) → eqb 10 separator ≡ false
    → next_record (parted_by separator) InField fields field (10 ∷ rest)
    ≡ Some (fields ++ field ∷ [], StartRecord, rest)
unfolding next_record
at_feed separator fields field rest unlike = rw unlike refl

-- so does a carriage return, after which a line feed is passed over
pub at_return :
    (separator : ℕ) (fields : List (List ℕ)) (field rest : List ℕ) → eqb 13 separator ≡ false
    → next_record (parted_by separator) InField fields field (13 ∷ rest)
    ≡ Some (fields ++ field ∷ [], AfterCr, rest)
unfolding next_record
at_return separator fields field rest unlike = rw unlike refl

pub behind_return :
    (separator : ℕ) (rest : List ℕ)
    → next_record (parted_by separator) AfterCr [] [] (10 ∷ rest)
    ≡ next_record (parted_by separator) StartRecord [] [] rest
unfolding next_record
behind_return separator rest = refl

-- the end of the text ends the record
pub at_end :
    (separator : ℕ) (fields : List (List ℕ)) (field : List ℕ)
    → next_record (parted_by separator) InField fields field [] ≡ Some (fields ++ field ∷ [], StartRecord, [])
unfolding next_record
at_end separator fields field = refl

-- and there is no other
pub no_more : (separator : ℕ) → next_record (parted_by separator) StartRecord [] [] [] ≡ None
unfolding next_record
no_more separator = refl
