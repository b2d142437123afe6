-- Texts as they are printed and read back.
use Rattle.std.proofs.Common.{◌≡◌, refl, sym, ap, subst, ◌∙◌, ℕ, true, false, eqb, List, [], ◌∷◌, ◌++◌, None, ◌&&◌, inl, inr}
use Rattle.std.specs.List.{list_all}
use Rattle.std.proofs.lemmas.Bool.Decides.{eqb_tells}
use Rattle.std.proofs.lemmas.List.Folds.{list_all-append}
use Rattle.page_tree.specs.Escaping.{escaped, readable}
use Rattle.page_tree.specs.Print.{entity, shown}
use Rattle.page_tree.specs.Reading.{read_text}
use Rattle.page_tree.specs.Laws.{is_plain}

-- a byte is one of the five, or is printed as it is
entity-cases :
    (P : ℕ → Type 0) → P 38 → P 60 → P 62 → P 34 → P 39 → (b : ℕ)
    → (eqb b 38 ≡ false → eqb b 60 ≡ false → eqb b 62 ≡ false → eqb b 34 ≡ false → eqb b 39 ≡ false → P b)
    → P b
entity-cases P amp lt gt quot apos b other =
    elim (eqb_tells b 38) [
      | inl is ↦ subst P (sym is.1) amp
      | inr not_amp ↦ elim (eqb_tells b 60) [
        | inl is ↦ subst P (sym is.1) lt
        | inr not_lt ↦ elim (eqb_tells b 62) [
          | inl is ↦ subst P (sym is.1) gt
          | inr not_gt ↦ elim (eqb_tells b 34) [
            | inl is ↦ subst P (sym is.1) quot
            | inr not_quot ↦ elim (eqb_tells b 39) [
              | inl is ↦ subst P (sym is.1) apos
              | inr not_apos ↦ other not_amp.0 not_lt.0 not_gt.0 not_quot.0 not_apos.0
            ]
          ]
        ]
      ]
    ]

-- an entity read back is its byte
read-entity : (b : ℕ) (rest : List ℕ) → read_text None (entity b ++ rest) ≡ b ∷ read_text None rest
read-entity b rest =
    entity-cases (λ c. read_text None (entity c ++ rest) ≡ c ∷ read_text None rest) refl refl refl refl refl b
    (λ amp lt gt quot apos. rw (amp, lt, gt, quot, apos) (rw amp refl))

pub read-escaped : (bytes : List ℕ) → read_text None (escaped entity bytes) ≡ bytes
unfolding escaped
read-escaped [] = refl
read-escaped (b ∷ bytes) = read-entity b (escaped entity bytes) ∙ ap (λ (l : List ℕ). b ∷ l) (read-escaped bytes)

pub read-shown : (text : List ℕ) → read_text None (shown text) ≡ readable text
read-shown text = read-escaped (readable text)

plain-entity : (b : ℕ) → list_all is_plain (entity b) ≡ true
plain-entity b =
    entity-cases (λ c. list_all is_plain (entity c) ≡ true) refl refl refl refl refl b
    (λ amp lt gt quot apos. rw (amp, lt, gt, quot, apos) (rw (lt, gt, quot, apos) refl))

pub plain-escaped : (bytes : List ℕ) → list_all is_plain (escaped entity bytes) ≡ true
unfolding escaped
plain-escaped [] = refl
plain-escaped (b ∷ bytes) =
    list_all-append is_plain (entity b) (escaped entity bytes)
    ∙ ap (λ t. t && list_all is_plain (escaped entity bytes)) (plain-entity b)
    ∙ plain-escaped bytes

pub plain-shown : (text : List ℕ) → list_all is_plain (shown text) ≡ true
plain-shown text = plain-escaped (readable text)
