-- The last byte of a text: fields never end with a line feed.
use Rattle.std.proofs.Common.{◌≡◌, ◌≢◌, refl, sym, ap, subst, ◌∙◌, ℕ, true, eqb, List, [], ◌∷◌, ◌++◌, inl, inr}
use Rattle.std.proofs.lemmas.Bool.{false≢true}
use Rattle.std.specs.List.{flat_map, list_all}
use Rattle.table_text.specs.Spelling.{AreFields, IsField, is_plain, within_quotes}
use Rattle.other_readers.proofs.Bytes.{first_plain, others_plain}

-- the last byte, after another one
abbrev pub last_of : ℕ → List ℕ → ℕ
last_of before [] = before
last_of before (b ∷ bytes) = last_of b bytes

pub last_behind :
    (before : ℕ) (front : List ℕ) (b : ℕ) (bytes : List ℕ) → last_of before (front ++ b ∷ bytes) ≡ last_of b bytes
last_behind before [] b bytes = refl
last_behind before (a ∷ front) b bytes = last_behind a front b bytes

-- a byte of a field without quotes is no line feed
plain_last :
    (before : ℕ) (field : List ℕ) → before ≢ 10 → list_all (is_plain 44) field ≡ true → last_of before field ≢ 10
plain_last before [] unlike all = unlike
plain_last before (b ∷ field) unlike all =
    plain_last b field (λ e. false≢true (sym (first_plain 44 b field all).feeds ∙ ap (λ (n : ℕ). eqb n 10) e))
    (others_plain 44 b field all)

field_last : (before : ℕ) (field text : List ℕ) → before ≢ 10 → IsField 44 field text → last_of before text ≢ 10
field_last before field text unlike (inl is) =
    subst (λ (t : List ℕ). last_of before t ≢ 10) (sym is.spelled) (plain_last before field unlike is.bytes)
field_last before field text unlike (inr is) =
    subst (λ (t : List ℕ). last_of before t ≢ 10) (sym is.spelled)
    (λ e. quote_no_feed (sym (last_behind 34 (flat_map within_quotes field) 34 []) ∙ e))
  where
    quote_no_feed : ◌≢◌ {A = ℕ} 34 10
    quote_no_feed e = absurd cc

pub fields_last :
    (before : ℕ) (fields : List (List ℕ)) (text : List ℕ) → before ≢ 10 → AreFields 44 fields text
    → last_of before text ≢ 10
fields_last before [] text unlike are = absurd are
fields_last before (field ∷ []) text unlike are = field_last before field text unlike are
fields_last before (field ∷ other ∷ fields) text unlike are =
    subst (λ (t : List ℕ). last_of before t ≢ 10) (sym are.2)
    (λ e. fields_last 44 (other ∷ fields) are.1 (λ same. absurd cc) are.4
    (sym (last_behind before are.0 44 are.1) ∙ e))
