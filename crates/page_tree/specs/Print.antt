-- How trees are printed.
use Rattle.std.specs.Prelude.{ℕ, ◌==◌, if◌then◌else◌, List, [], ◌∷◌, ◌++◌, codes}
use Rattle.std.specs.List.{flat_map}
use Rattle.page_tree.specs.Escaping.{readable, escaped}
use Rattle.page_tree.specs.Trees.{Attribute, Trees, Nothing, Text, Element, Void}

-- a byte of a text: `&` (38), `<` (60), `>` (62), `"` (34) and `'` (39) as entities, and each other one as it is
abbrev pub entity : ℕ → List ℕ
entity b =
    if b == 38 then codes "&amp;"
    else if b == 60 then codes "&lt;"
    else if b == 62 then codes "&gt;"
    else if b == 34 then codes "&quot;"
    else if b == 39 then codes "&#39;"
    else b ∷ []

-- a text as it is printed
abbrev pub shown : List ℕ → List ℕ
shown text = escaped entity (readable text)

-- an attribute after a space (32), its value between quotes (34)
abbrev pub attribute_text : Attribute → List ℕ
attribute_text attribute = 32 ∷ (attribute.name ++ (codes "=\"" ++ (shown attribute.value ++ 34 ∷ [])))

abbrev pub opening : (name : List ℕ) → List Attribute → List ℕ
opening name attributes = 60 ∷ (name ++ (flat_map attribute_text attributes ++ 62 ∷ []))

abbrev pub closing : (name : List ℕ) → List ℕ
closing name = 60 ∷ 47 ∷ (name ++ 62 ∷ [])

abbrev pub printed : Trees → List ℕ
printed Nothing = []
printed (Text text behind) = shown text ++ printed behind
printed (Element name attributes within behind) =
    opening name attributes ++ (printed within ++ (closing name ++ printed behind))
printed (Void name attributes behind) = opening name attributes ++ printed behind
