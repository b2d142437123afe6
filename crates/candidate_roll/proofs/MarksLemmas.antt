-- Marks that are set one after another.
use Rattle.std.proofs.Common.{◌≡◌, ℕ, ◌+◌, ◌-◌, ◌<◌, ◌≤◌, ◌==◌, ◌||◌, Bool, true, false, List, [], length}
use Rattle.std.proofs.Common.{get_or, set, take, arith, refl, ap, sym, ◌∙◌, inl, inr}
use Rattle.std.proofs.lemmas.List.{get_or-set_other, length-set}
use Rattle.std.proofs.lemmas.List.Folds.{list_any_more}
use Rattle.std.proofs.lemmas.List.FromFn.{fill_by_all, get_or-map-range_with_len, length-map-range_with_len}
use Rattle.std.proofs.lemmas.Bool.Decides.{eqb_tells}
use Rattle.std.proofs.Math.Bool.{or-false, or-true, or_assoc}
use Rattle.std.proofs.lemmas.Grind.{get_or-set_at}
use Rattle.candidate_roll.specs.Roll.{is_listed, marks_with}

-- the mark at a place: as it was, or its candidate is listed
abbrev pub mark_with : List Bool → List ℕ → ℕ → Bool
mark_with marks listed p = get_or marks p false || is_listed listed (p + 1)

pub get_or-marks_with :
    (marks : List Bool) (listed : List ℕ) (p : ℕ) → p < length marks
    → get_or (marks_with marks listed) p false ≡ mark_with marks listed p
get_or-marks_with marks listed p below =
    get_or-map-range_with_len (mark_with marks listed) 0 (length marks) p p false below (omega arith)

-- nobody is listed
pub marks_with-nil : (marks : List Bool) → marks ≡ marks_with marks []
marks_with-nil marks =
    fill_by_all (mark_with marks []) marks (length marks) false refl (λ k below. sym (or-false (get_or marks k false)))

-- one more is listed
pub mark_with-more :
    (marks : List Bool) (listed : List ℕ) (i k : ℕ) → i < length listed
    → mark_with marks (take (i + 1) listed) k
    ≡ (mark_with marks (take i listed) k || (get_or listed i 0 == k + 1))
mark_with-more marks listed i k below =
    ap (λ t. get_or marks k false || t) (list_any_more (λ d. d == k + 1) listed i 0 below)
    ∙ sym (or_assoc (get_or marks k false) (is_listed (take i listed) (k + 1)) (get_or listed i 0 == k + 1))

pub marks_with-more :
    (marks : List Bool) (listed : List ℕ) (i : ℕ) → i < length listed → 1 ≤ get_or listed i 0
    → get_or listed i 0 ≤ length marks
    → set (marks_with marks (take i listed)) (get_or listed i 0 - 1) true
    ≡ marks_with marks (take (i + 1) listed)
marks_with-more marks listed i below some few =
    let c = get_or listed i 0 in
    let before = marks_with marks (take i listed) in
    let same : length before ≡ length marks = length-map-range_with_len (mark_with marks (take i listed)) 0 (length marks) in
    fill_by_all (mark_with marks (take (i + 1) listed)) (set before (c - 1) true) (length marks) false
    (length-set before (c - 1) true ∙ same) (λ k inside.
    elim (eqb_tells c (k + 1)) [
      | inl here ↦
          get_or-set_at before (c - 1) k true false (omega (arith, here.1)) (omega arith)
          ∙ sym (mark_with-more marks listed i k below
          ∙ ap (λ t. mark_with marks (take i listed) k || t) here.0
          ∙ or-true (mark_with marks (take i listed) k))
      | inr other ↦
          get_or-set_other before (c - 1) k true false (λ same_place. other.1 (omega (arith, same_place)))
          ∙ get_or-marks_with marks (take i listed) k inside
          ∙ sym (mark_with-more marks listed i k below
          ∙ ap (λ t. mark_with marks (take i listed) k || t) other.0
          ∙ or-false (mark_with marks (take i listed) k))
    ])
