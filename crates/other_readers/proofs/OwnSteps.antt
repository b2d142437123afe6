-- How the reader of csv_text reads the fields of a record.
use Rattle.std.proofs.Common.{◌≡◌, refl, sym, ap, subst, ◌∙◌, ℕ, true, List, [], ◌∷◌, ◌++◌}
use Rattle.std.proofs.Common.{append_assoc, append-nil, inl, inr}
use Rattle.std.proofs.lemmas.Bool.Decides.{eqb_tells}
use Rattle.std.specs.List.{flat_map, list_all}
use Rattle.csv_text.specs.Reading.{BehindQuote, Outside, Within, read}
use Rattle.table_text.specs.Spelling.{AreFields, IsField, is_plain, within_quotes}
use Rattle.other_readers.proofs.Bytes.{first_plain, others_plain}
use Rattle.other_readers.proofs.CsvSteps.{IsUnquoted}

plain_read :
    (fields : List (List ℕ)) (field bytes rest : List ℕ) → list_all (is_plain 44) bytes ≡ true
    → read fields (Outside field) (bytes ++ rest) ≡ read fields (Outside (field ++ bytes)) rest
plain_read fields field [] rest all = ap (λ (f : List ℕ). read fields (Outside f) rest) (sym (append-nil field))
plain_read fields field (b ∷ bytes) rest all =
    let is = first_plain 44 b bytes all in
    rw (is.quotes, is.parts, is.returns, is.feeds)
    (plain_read fields (field ++ b ∷ []) bytes rest (others_plain 44 b bytes all)
    ∙ ap (λ (f : List ℕ). read fields (Outside f) rest) (append_assoc field (b ∷ []) bytes))

one_read :
    (fields : List (List ℕ)) (field : List ℕ) (b : ℕ) (rest : List ℕ)
    → read fields (Within field) (within_quotes b ++ rest) ≡ read fields (Within (field ++ b ∷ [])) rest
one_read fields field b rest =
    elim (eqb_tells b 34) [
      | inl quote ↦
          subst (λ (q : ℕ). read fields (Within field) (within_quotes q ++ rest)
          ≡ read fields (Within (field ++ q ∷ [])) rest) (sym quote.1) refl
      | inr other ↦ rw other.0 (rw other.0 refl)
    ]

quoted_read :
    (fields : List (List ℕ)) (field bytes rest : List ℕ)
    → read fields (Within field) (flat_map within_quotes bytes ++ 34 ∷ rest)
    ≡ read fields (BehindQuote (field ++ bytes)) rest
quoted_read fields field [] rest = ap (λ (f : List ℕ). read fields (BehindQuote f) rest) (sym (append-nil field))
quoted_read fields field (b ∷ bytes) rest =
    let others = flat_map within_quotes bytes in
    ap (λ (l : List ℕ). read fields (Within field) l) (append_assoc (within_quotes b) others (34 ∷ rest))
    ∙ one_read fields field b (others ++ 34 ∷ rest)
    ∙ quoted_read fields (field ++ b ∷ []) bytes rest
    ∙ ap (λ (f : List ℕ). read fields (BehindQuote f) rest) (append_assoc field (b ∷ []) bytes)

behind_read :
    (fields : List (List ℕ)) (field rest : List ℕ) → IsUnquoted rest
    → read fields (BehindQuote field) rest ≡ read fields (Outside field) rest
behind_read fields field [] unquoted = refl
behind_read fields field (b ∷ rest) unquoted = rw unquoted refl

any_read :
    (fields : List (List ℕ)) (field text rest : List ℕ) → IsField 44 field text → IsUnquoted rest
    → read fields (Outside []) (text ++ rest) ≡ read fields (Outside field) rest
any_read fields field text rest (inl is) unquoted =
    ap (λ (t : List ℕ). read fields (Outside []) (t ++ rest)) is.spelled ∙ plain_read fields [] field rest is.bytes
any_read fields field text rest (inr is) unquoted =
    ap (λ (t : List ℕ). read fields (Outside []) (t ++ rest)) is.spelled
    ∙ ap (λ (l : List ℕ). read fields (Within []) l) (append_assoc (flat_map within_quotes field) (34 ∷ []) rest)
    ∙ quoted_read fields [] field rest
    ∙ behind_read fields field rest unquoted

module _ (tail : List ℕ) (others : List (List (List ℕ)))
    (ends : (fields : List (List ℕ)) (field : List ℕ)
    → read fields (Outside field) tail ≡ (fields ++ field ∷ []) ∷ others)
    (unquoted : IsUnquoted tail)
  where
    -- all fields up to the end of their record
    pub record_read :
        (before fields : List (List ℕ)) (text : List ℕ) → AreFields 44 fields text
        → read before (Outside []) (text ++ tail) ≡ (before ++ fields) ∷ others
    record_read before [] text are = absurd are
    record_read before (field ∷ []) text are = any_read before field text tail are unquoted ∙ ends before field
    record_read before (field ∷ other ∷ fields) text are =
        let front = are.0 in
        let rest = are.1 in
        ap (λ (t : List ℕ). read before (Outside []) (t ++ tail)) are.2
        ∙ ap (λ (t : List ℕ). read before (Outside []) t) (append_assoc front (44 ∷ rest) tail)
        ∙ any_read before field front (44 ∷ (rest ++ tail)) are.3 refl
        ∙ record_read (before ++ field ∷ []) (other ∷ fields) rest are.4
        ∙ ap (λ (all : List (List ℕ)). all ∷ others) (append_assoc before (field ∷ []) (other ∷ fields))
