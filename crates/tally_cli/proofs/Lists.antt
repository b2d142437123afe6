-- Lists that grow as others are walked.
use Rattle.std.proofs.Common.{◌≡◌, ℕ, ◌+◌, ◌<◌, List, ◌++◌, length, take, get_or, sym, ap, ◌∙◌}
use Rattle.std.specs.List.{flat_map}
use Rattle.std.proofs.lemmas.List.{take_more, flat_map_more}

-- what one more element brings
pub flat_more : {X A : Type 0} (f : X → List A) (before : List A) (xs : List X) (i : ℕ) (d : X) → i < length xs
    → (before ++ flat_map f (take i xs)) ++ f (get_or xs i d) ≡ before ++ flat_map f (take (i + 1) xs)
flat_more {X} f before xs i d below =
    flat_map_more f before (take i xs) (get_or xs i d)
    ∙ ap (λ (l : List X). before ++ flat_map f l) (sym (take_more xs i d below))
