-- The text of a field from its spelling.
use Rattle.std.proofs.Common.{◌≡◌, ℕ, List, [], ◌∷◌, ◌++◌, Bool, true, false, cond, ◌==◌, inl, inr, refl, sym}
use Rattle.std.proofs.Common.{◌∙◌, ap, subst, append_assoc}
use Rattle.std.proofs.lemmas.Bool.{and_parts, eqb-true}
use Rattle.std.specs.List.{flat_map, list_all}
use Rattle.table_text.specs.Spelling.{is_plain, within_quotes, IsField}
use Rattle.table_text.specs.Reading.{unquoted, field_text}
use Rattle.table_text.proofs.Marks.{mark_plain}

one_byte :
    (b : ℕ) (rest : List ℕ) (is_quote : Bool) → (b == 34) ≡ is_quote
    → unquoted false (within_quotes b ++ rest) ≡ b ∷ unquoted false rest
one_byte b rest true is =
    let P : ℕ → Type 0 = λ n. unquoted false (within_quotes n ++ rest) ≡ n ∷ unquoted false rest in
    subst P (sym (eqb-true b 34 is)) refl
one_byte b rest false is = rw is (rw is refl)

pub unquoted-quoted : (field : List ℕ) → unquoted false (flat_map within_quotes field ++ 34 ∷ []) ≡ field
unquoted-quoted [] = refl
unquoted-quoted (b ∷ field) =
    ap (unquoted false) (append_assoc (within_quotes b) (flat_map within_quotes field) (34 ∷ []))
    ∙ (one_byte b (flat_map within_quotes field ++ 34 ∷ []) (b == 34) refl
    ∙ ap (λ (t : List ℕ). b ∷ t) (unquoted-quoted field))

pub plain_text : (s : ℕ) (field : List ℕ) → list_all (is_plain s) field ≡ true → field_text field ≡ field
plain_text s [] all = refl
plain_text s (b ∷ field) all =
    let unlike = (mark_plain s b [] (and_parts (is_plain s b) (list_all (is_plain s) field) all).0).1 in
    ap (λ (q : Bool). cond q (unquoted false field) (b ∷ field)) unlike

pub text_is : (s : ℕ) (field text : List ℕ) → IsField s field text → field_text text ≡ field
text_is s field text (inl is) = ap field_text is.spelled ∙ plain_text s field is.bytes
text_is s field text (inr is) = ap field_text is.spelled ∙ unquoted-quoted field
