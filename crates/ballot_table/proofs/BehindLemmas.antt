-- Items of a list, each taken with those before it.
use Rattle.std.proofs.Common.{◌≡◌, ℕ, ◌+◌, List, [], ◌∷◌, ◌++◌, length, take, map, refl, ap, sym, ◌∙◌, append_assoc}
use Rattle.std.specs.List.{enumerate_from}
use Rattle.std.proofs.Math.Seq.{take-append_seam}
use Rattle.std.proofs.lemmas.List.{length-append}

module _ {X Y : Type 0} (f : List X → X → Y) where
  -- what becomes of each of the rest, after a front and those before it
  abbrev pub each : (front rest : List X) → List Y
  each front [] = []
  each front (x ∷ rest) = f front x ∷ each (front ++ x ∷ []) rest

  -- by places from some number on, in a whole list
  abbrev pub by_places : (whole : List X) → (from : ℕ) → (rest : List X) → List Y
  by_places whole from rest = map (λ (at : ℕ × X). f (take at.0 whole) at.1) (enumerate_from from rest)

  pub places_are_each : (front rest : List X) → by_places (front ++ rest) (length front) rest ≡ each front rest
  places_are_each front [] = refl
  places_are_each front (x ∷ rest) =
      let further : length front + 1 ≡ length (front ++ x ∷ []) = sym (length-append front (x ∷ [])) in
      ap (λ before. f before x ∷ by_places (front ++ x ∷ rest) (length front + 1) rest) (take-append_seam front (x ∷ rest))
      ∙ ap (λ whole. f front x ∷ by_places whole (length front + 1) rest) (sym (append_assoc front (x ∷ []) rest))
      ∙ ap (λ from. f front x ∷ by_places ((front ++ x ∷ []) ++ rest) from rest) further
      ∙ ap (λ ys. f front x ∷ ys) (places_are_each (front ++ x ∷ []) rest)
