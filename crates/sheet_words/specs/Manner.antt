-- How sentences are written.
use Rattle.std.specs.Prelude.{ℕ, List, [], ◌∷◌, ◌++◌}
use Rattle.std.specs.List.{flat_map}

-- what is before a sentence, what is written for each text of it, and what is after it
pub record Manner : Type 0 where
  pub opening : List ℕ
  pub voiced : List ℕ → List ℕ
  pub closing : List ℕ

-- what is written for texts one after another
unfoldable pub said : Manner → List (List ℕ) → List ℕ
said manner texts = flat_map manner.voiced texts

-- a sentence as it is written
abbrev pub told : Manner → List (List ℕ) → List ℕ
told manner texts = manner.opening ++ (said manner texts ++ manner.closing)

-- a line for each sentence, with the texts as they are; 10 is the line feed that ends a line
abbrev pub lines : Manner
lines = record { opening = []; voiced = λ text. text; closing = 10 ∷ [] }
