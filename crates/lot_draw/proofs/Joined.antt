-- Numbers with a comma between each two.
use Rattle.std.proofs.Common.{◌≡◌, refl, sym, ap, ◌∙◌, ℕ, ◌+◌, ◌<◌, ◌≤◌, zero, suc, List, [], ◌∷◌, ◌++◌}
use Rattle.std.proofs.Common.{length, take, get_or, map, arith, length-append}
use mathlib.Core.List.{append_assoc}
use Rattle.std.specs.Prelude.{decimal}
use Rattle.std.specs.List.{join_with_byte}
use Rattle.std.proofs.lemmas.List.{take_more, map-append}
use Rattle.line_text.proofs.Lengths.{length-candidate}
use Rattle.lot_draw.specs.DrawnLine.{behind}

-- one more piece after others
join-push :
    (c : ℕ) (x : List ℕ) (xs : List (List ℕ)) (y : List ℕ)
    → join_with_byte c ((x ∷ xs) ++ y ∷ []) ≡ join_with_byte c (x ∷ xs) ++ c ∷ y
join-push c x [] y = refl
join-push c x (z ∷ xs) y =
    ap (λ (l : List ℕ). x ++ c ∷ l) (join-push c z xs y)
    ∙ sym (append_assoc x (c ∷ join_with_byte c (z ∷ xs)) (c ∷ y))

pub joined-more :
    (order : List ℕ) (i : ℕ) → i < length order
    → join_with_byte 44 (map decimal (take (i + 1) order))
    ≡ join_with_byte 44 (map decimal (take i order)) ++ behind i (get_or order i 0)
joined-more [] i below = absurd (omega arith)
joined-more (x ∷ order) zero below = refl
joined-more (x ∷ order) (suc i) below =
    let more : take (suc i + 1) (x ∷ order) ≡ take (suc i) (x ∷ order) ++ get_or order i 0 ∷ [] =
    take_more (x ∷ order) (suc i) 0 below in
    ap (λ (l : List ℕ). join_with_byte 44 (map decimal l)) more
    ∙ ap (join_with_byte 44) (map-append decimal (take (suc i) (x ∷ order)) (get_or order i 0 ∷ []))
    ∙ join-push 44 (decimal x) (map decimal (take i order)) (decimal (get_or order i 0))

-- a number of a candidate after some text
pub ruleset rooms = (length-candidate, length-append)
