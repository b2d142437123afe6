-- How a page is looked through: the elements that a path of names leads to, and their texts.
use Rattle.std.specs.Prelude.{ℕ, Bool, ◌||◌, not, if◌then◌else◌, List, [], ◌∷◌, ◌++◌, codes, map}
use Rattle.std.specs.List.{filter, flat_map}
use Rattle.std.specs.Str.{bytes_eq}
use Rattle.page_tree.specs.Trees.{Attribute, Trees, Nothing, Text, Element, Void}

-- the text that a reader sees in trees
abbrev pub text_in : Trees → List ℕ
text_in Nothing = []
text_in (Text text behind) = text ++ text_in behind
text_in (Element name attributes within behind) = text_in within ++ text_in behind
text_in (Void name attributes behind) = text_in behind

-- what is within each element of this name, in their order; those within others are not looked for
abbrev pub children : (name : List ℕ) → Trees → List Trees
children name Nothing = []
children name (Text text behind) = children name behind
children name (Element other attributes within behind) =
    if bytes_eq other name then within ∷ children name behind else children name behind
children name (Void other attributes behind) = children name behind

-- what is within each element that these names lead to, each name within the one before
abbrev pub along : (path : List (List ℕ)) → Trees → List Trees
along [] trees = trees ∷ []
along (name ∷ path) trees = flat_map (along path) (children name trees)

abbrev pub texts_along : (path : List (List ℕ)) → Trees → List (List ℕ)
texts_along path trees = map text_in (along path trees)

-- ---- names of parts

-- an attribute with the name of a part, or with where a link leads
abbrev pub is_naming : Attribute → Bool
is_naming attribute = bytes_eq attribute.name (codes "id") || bytes_eq attribute.name (codes "href")

abbrev pub without_names : List Attribute → List Attribute
without_names attributes = filter (λ attribute. not (is_naming attribute)) attributes

-- Trees without names of parts and without targets of links, which alone differ where a page shows several sheets.
abbrev pub unnamed : Trees → Trees
unnamed Nothing = Nothing
unnamed (Text text behind) = Text text (unnamed behind)
unnamed (Element name attributes within behind) = Element name (without_names attributes) (unnamed within) (unnamed behind)
unnamed (Void name attributes behind) = Void name (without_names attributes) (unnamed behind)
