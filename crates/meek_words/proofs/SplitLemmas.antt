-- Words joined by a byte, and cut again at that byte.
use Rattle.std.proofs.Common.{◌≡◌, ℕ, ◌≤◌, List, [], ◌∷◌, length, false, true, arith, All, ap, ◌∙◌, nat_eq}
use Rattle.std.specs.List.{join_with_byte, slice_split}
use Rattle.std.proofs.lemmas.List.Elements.{All-head, All-tail}
use Rattle.std.proofs.lemmas.List.Splits.{slice_split_none, slice_split_at}

-- no byte of the word is the byte c
abbrev pub Lacks : ℕ → List ℕ → Type 0
Lacks c word = All (λ b. nat_eq b c ≡ false) word

pub slice_split-join :
    (c : ℕ) → nat_eq c c ≡ true → (parts : List (List ℕ)) → 1 ≤ length parts → All (Lacks c) parts
    → slice_split (λ b. nat_eq b c) (join_with_byte c parts) ≡ parts
slice_split-join c same [] some lacks = absurd (omega arith)
slice_split-join c same (x ∷ []) some lacks = slice_split_none (λ b. nat_eq b c) x (All-head (Lacks c) x [] lacks)
slice_split-join c same (x ∷ y ∷ rest) some lacks =
    slice_split_at (λ b. nat_eq b c) x c (join_with_byte c (y ∷ rest)) (All-head (Lacks c) x (y ∷ rest) lacks) same
    ∙ ap (λ parts. x ∷ parts) (slice_split-join c same (y ∷ rest) (omega arith) (All-tail (Lacks c) x (y ∷ rest) lacks))
