-- A name without its spaces, in small letters, one byte more at a time.
use Rattle.std.proofs.Common.{◌≡◌, ◌≢◌, ◌∙◌, ℕ, ◌+◌, ◌<◌, Bool, cond, List, [], ◌∷◌, ◌++◌, append-nil, ap, get_or, length, map, sym, take}
use Rattle.std.specs.Prelude.{◌==◌, not}
use Rattle.std.specs.List.{filter}
use Rattle.std.specs.Char.{to_ascii_lowercase}
use Rattle.std.proofs.lemmas.Bool.{eq-eqb, ne_eqb}
use Rattle.std.proofs.lemmas.Grind.{take_at_read}
use Rattle.std.proofs.lemmas.List.{map-append}
use Rattle.std.proofs.lemmas.List.Elements.{filter-append}
use Rattle.ballot_findings.specs.Names.{plainly}

abbrev is_kept : ℕ → Bool
is_kept b = not (b == 32)

abbrev kept : ℕ → Bool → List ℕ
kept b is_space = map to_ascii_lowercase (cond (not is_space) (b ∷ []) [])

module _ (name : List ℕ) (i : ℕ) (within : i < length name) (plain : List ℕ) (before : plain ≡ plainly (take i name)) where
  plainly_more : plainly (take (i + 1) name) ≡ plainly (take i name) ++ kept (get_or name i 0) (get_or name i 0 == 32)
  plainly_more =
      ap plainly (take_at_read name i 0 within).1
      ∙ (ap (map to_ascii_lowercase) (filter-append is_kept (take i name) (get_or name i 0 ∷ []))
      ∙ map-append to_ascii_lowercase (filter is_kept (take i name)) (filter is_kept (get_or name i 0 ∷ [])))

  -- a byte that is kept, and a space
  pub one_kept : get_or name i 0 ≢ 32 → plain ++ to_ascii_lowercase (get_or name i 0) ∷ [] ≡ plainly (take (i + 1) name)
  one_kept other =
      ap (λ (ps : List ℕ). ps ++ to_ascii_lowercase (get_or name i 0) ∷ []) before
      ∙ (ap (λ (b : Bool). plainly (take i name) ++ kept (get_or name i 0) b) (sym (ne_eqb (get_or name i 0) 32 other))
      ∙ sym plainly_more)

  pub one_left_out : get_or name i 0 ≡ 32 → plain ≡ plainly (take (i + 1) name)
  one_left_out space =
      before
      ∙ (sym (append-nil (plainly (take i name)))
      ∙ (ap (λ (b : Bool). plainly (take i name) ++ kept (get_or name i 0) b) (sym (eq-eqb (get_or name i 0) 32 space))
      ∙ sym plainly_more))
