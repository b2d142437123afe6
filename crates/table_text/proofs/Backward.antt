-- What is read to its end is spelled so.
use Rattle.std.proofs.Common.{◌≡◌, ℕ, ◌+◌, List, [], ◌∷◌, ◌++◌, length, map, Bool, true, false, cond, ◌==◌}
use Rattle.std.proofs.Common.{inl, inr, refl, sym, ◌∙◌, ap, subst, append-nil, append_assoc}
use Rattle.std.proofs.lemmas.Bool.{and_from}
use Rattle.std.proofs.lemmas.List.Concat.{flat_map-append}
use Rattle.std.proofs.lemmas.List.Folds.{list_all-append}
use Rattle.std.specs.List.{flat_map, list_all}
use Rattle.table_text.specs.Spelling.{is_text, is_plain, within_quotes, IsQuoted, IsField, AreFields}
use Rattle.table_text.specs.Reading.{Field, field_text, Part, Front, Plain, Within, BehindQuote, Return}
use Rattle.table_text.specs.Reading.{begins_with_feed}
use Rattle.table_text.specs.Laws.{IsSeparator}
use Rattle.table_text.proofs.Texts.{text_is}
use Rattle.table_text.proofs.Forward.{text_of}

-- the byte of a line end that was read already
abbrev pub turned : Part → List ℕ
turned Return = 13 ∷ []
turned other = []

abbrev pub AtFeed : Part → List ℕ → Type 0
AtFeed Return rest = begins_with_feed rest ≡ true
AtFeed other rest = Unit {0}

module _ (s : ℕ) (fit : IsSeparator s) where
  -- the bytes are a field
  abbrev pub IsWhole : List ℕ → Type 0
  IsWhole bytes = IsField s (field_text bytes) bytes

  -- an open quote, and text within quotes
  pub record IsOpen (bytes : List ℕ) : Type 0 where
    pub field : List ℕ
    pub spelled : bytes ≡ 34 ∷ flat_map within_quotes field
    pub text : list_all is_text field ≡ true

  pub record IsClosed (bytes : List ℕ) : Type 0 where
    pub field : List ℕ
    pub quoted_is : IsQuoted field bytes

  abbrev pub PartIs : Part → List ℕ → Type 0
  PartIs Front bytes = bytes ≡ []
  PartIs Plain bytes = list_all (is_plain s) bytes ≡ true
  PartIs Within bytes = IsOpen bytes
  PartIs BehindQuote bytes = IsClosed bytes
  PartIs Return bytes = IsWhole bytes

  whole_field : (field bytes : List ℕ) → IsField s field bytes → IsWhole bytes
  whole_field field bytes is = subst (λ (f : List ℕ). IsField s f bytes) (sym (text_is s field bytes is)) is

  pub whole_front : (bytes : List ℕ) → bytes ≡ [] → IsWhole bytes
  whole_front bytes is = whole_field [] bytes (inl (record { spelled = is; bytes = refl }))

  pub whole_plain : (bytes : List ℕ) → list_all (is_plain s) bytes ≡ true → IsWhole bytes
  whole_plain bytes all = whole_field bytes bytes (inl (record { spelled = refl; bytes = all }))

  pub whole_closed : (bytes : List ℕ) → IsClosed bytes → IsWhole bytes
  whole_closed bytes is = whole_field is.field bytes (inr is.quoted_is)

  -- one more byte of a field
  pub plain_more : (bytes : List ℕ) (b : ℕ) → list_all (is_plain s) bytes ≡ true → is_plain s b ≡ true
      → list_all (is_plain s) (bytes ++ b ∷ []) ≡ true
  plain_more bytes b all is =
      list_all-append (is_plain s) bytes (b ∷ [])
      ∙ and_from (list_all (is_plain s) bytes) (list_all (is_plain s) (b ∷ [])) all
      (and_from (is_plain s b) true is refl)

  text_more : (field : List ℕ) (b : ℕ) → list_all is_text field ≡ true → is_text b ≡ true
      → list_all is_text (field ++ b ∷ []) ≡ true
  text_more field b all is =
      list_all-append is_text field (b ∷ [])
      ∙ and_from (list_all is_text field) (list_all is_text (b ∷ [])) all (and_from (is_text b) true is refl)

  pub open_more :
      (bytes : List ℕ) (b : ℕ) → IsOpen bytes → (b == 34) ≡ false → is_text b ≡ true
      → IsOpen (bytes ++ b ∷ [])
  open_more bytes b is unlike text = record {
    field = is.field ++ b ∷ [];
    spelled =
        let single : within_quotes b ≡ b ∷ [] = ap (λ (q : Bool). cond q (34 ∷ 34 ∷ []) (b ∷ [])) unlike in
        ap (λ (l : List ℕ). l ++ b ∷ []) is.spelled
        ∙ ap (λ (l : List ℕ). 34 ∷ l)
        (ap (λ (w : List ℕ). flat_map within_quotes is.field ++ w)
        (sym (append-nil (b ∷ [])) ∙ ap (λ (w : List ℕ). w ++ []) (sym single))
        ∙ sym (flat_map-append within_quotes is.field (b ∷ [])));
    text = text_more is.field b is.text text;
  }

  pub open_first : (bytes : List ℕ) (b : ℕ) → bytes ≡ [] → b ≡ 34 → IsOpen (bytes ++ b ∷ [])
  open_first bytes b none is = record {
    field = [];
    spelled = ap (λ (l : List ℕ). l ++ b ∷ []) none ∙ ap (λ (n : ℕ). n ∷ []) is;
    text = refl;
  }

  pub closed_now : (bytes : List ℕ) (b : ℕ) → IsOpen bytes → b ≡ 34 → IsClosed (bytes ++ b ∷ [])
  closed_now bytes b is quote = record {
    field = is.field;
    quoted_is = record {
      spelled = ap (λ (l : List ℕ). l ++ b ∷ []) is.spelled
          ∙ ap (λ (n : ℕ). 34 ∷ (flat_map within_quotes is.field ++ n ∷ [])) quote;
      bytes = is.text;
    };
  }

  pub open_again : (bytes : List ℕ) (b : ℕ) → IsClosed bytes → b ≡ 34 → IsOpen (bytes ++ b ∷ [])
  open_again bytes b is quote =
      let field : List ℕ = is.field in
      let inner : List ℕ = flat_map within_quotes field in
      record {
        field = field ++ 34 ∷ [];
        spelled =
            ap (λ (l : List ℕ). l ++ b ∷ []) is.quoted_is.spelled
            ∙ (ap (λ (n : ℕ). 34 ∷ ((inner ++ 34 ∷ []) ++ n ∷ [])) quote
            ∙ ap (λ (l : List ℕ). 34 ∷ l)
            (append_assoc inner (34 ∷ []) (34 ∷ []) ∙ sym (flat_map-append within_quotes field (34 ∷ []))));
        text = text_more field 34 is.quoted_is.bytes refl;
      }

  -- ---- the fields of a record

  pub with_first :
      (field front : List ℕ) (more : List (List ℕ)) (rest : List ℕ) → IsField s field front
      → AreFields s more rest
      → AreFields s (field ∷ more) (front ++ s ∷ rest)
  with_first field front [] rest is are = absurd are
  with_first field front (other ∷ more) rest is are = (front, rest, refl, is, are)

  -- Fields after these are fields with them.
  abbrev pub AreBefore : List Field → List ℕ → Type 0
  AreBefore fields front =
      (more : List (List ℕ)) (rest : List ℕ) → AreFields s more rest
      → AreFields s (map text_of fields ++ more) (front ++ rest)

  -- where a reader stands, after the fields that this front spells
  pub record Stands (start : ℕ) (fields : List Field) (from : ℕ) (bytes : List ℕ) (part : Part) (at : ℕ)
      (front : List ℕ)
      : Type 0 where
    pub before : AreBefore fields front
    pub part_is : PartIs part bytes
    pub place : start + length (front ++ bytes) ≡ from + length bytes
    pub here : at ≡ from + length bytes + length (turned part)
