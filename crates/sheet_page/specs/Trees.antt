-- Trees of a page, put together from lists.
use Rattle.std.specs.Prelude.{ℕ, List, [], ◌∷◌, codes, decimal, map}
use Rattle.std.specs.List.{flat_map}
use Rattle.page_tree.specs.Trees.{Attribute, Trees, Nothing, Text, Element, Void, followed}
use Rattle.page_tree.specs.Print.{printed}

-- trees one after another
abbrev pub all : List Trees → Trees
all [] = Nothing
all (tree ∷ trees) = followed tree (all trees)

-- a tree for each item
abbrev pub each : {X : Type 0} → (X → Trees) → List X → Trees
each tree items = all (map tree items)

-- what these print
abbrev pub print_each : {X : Type 0} → (X → Trees) → List X → List ℕ
print_each tree items = flat_map (λ x. printed (tree x)) items

-- an element with these trees within it
abbrev pub el : (name : List ℕ) → List Attribute → List Trees → Trees
el name attributes within = Element name attributes (all within) Nothing

-- an element that can have nothing within it
abbrev pub void : (name : List ℕ) → List Attribute → Trees
void name attributes = Void name attributes Nothing

abbrev pub words : List ℕ → Trees
words text = Text text Nothing

-- a name, set apart from what stands around it: letters that are written from right to left, and signs of direction, move nothing outside it
abbrev pub isolated : (name : List ℕ) → Trees
isolated name = el (codes "bdi") [] (words name ∷ [])

-- a candidate: its name, and its number in brackets
abbrev pub candidate : (name : List ℕ) → (number : ℕ) → List Trees → List Trees
candidate name number behind = isolated name ∷ words (codes " (") ∷ words (decimal number) ∷ words (codes ")") ∷ behind

abbrev pub at : (name value : List ℕ) → Attribute
at name value = record { name = name; value = value }
