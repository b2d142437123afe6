-- How a reader takes a printed page: the entities of a text, and its tags.
use Rattle.std.specs.Prelude.{ℕ, ◌==◌, Bool, true, false, if◌then◌else◌, List, [], ◌∷◌, ◌++◌, codes, Option, Some, None}
use Rattle.std.specs.Str.{bytes_eq}
use Rattle.page_tree.specs.Trees.{is_void}

-- the byte that an entity's name stands for
abbrev pub named : List ℕ → List ℕ
named name =
    if bytes_eq name (codes "amp") then 38 ∷ []
    else if bytes_eq name (codes "lt") then 60 ∷ []
    else if bytes_eq name (codes "gt") then 62 ∷ []
    else if bytes_eq name (codes "quot") then 34 ∷ []
    else if bytes_eq name (codes "#39") then 39 ∷ []
    else []

-- The text that bytes are read as, after a front of an entity's name, or in no entity. An entity begins with `&` (38) and ends with a
-- semicolon (59).
abbrev pub read_text : Option (List ℕ) → List ℕ → List ℕ
read_text entity [] = []
read_text None (b ∷ rest) = if b == 38 then read_text (Some []) rest else b ∷ read_text None rest
read_text (Some name) (b ∷ rest) = if b == 59 then named name ++ read_text None rest else read_text (Some (name ++ b ∷ [])) rest

-- ---- tags

-- the elements that are open after the end of one: it has to be the last that was opened
abbrev pub ended : List (List ℕ) → (name : List ℕ) → Option (List (List ℕ))
ended [] name = None
ended (last ∷ begun) name = if bytes_eq last name then Some begun else None

-- the name at the front of a tag, up to a space (32)
abbrev pub tag_name : List ℕ → List ℕ
tag_name [] = []
tag_name (b ∷ tag) = if b == 32 then [] else b ∷ tag_name tag

abbrev pub is_none_begun : List (List ℕ) → Bool
is_none_begun [] = true
is_none_begun (last ∷ begun) = false

-- the elements that are open after a tag; 47 is the slash of an end
abbrev pub behind_tag : List (List ℕ) → (tag : List ℕ) → Option (List (List ℕ))
behind_tag begun [] = None
behind_tag begun (b ∷ tag) =
    if b == 47 then ended begun tag
    else if is_void (tag_name (b ∷ tag)) then Some begun
    else Some (tag_name (b ∷ tag) ∷ begun)

-- Whether the elements of bytes nest and are closed, where these are open and so much of a tag was read. No `<` (60) is within a tag, and
-- no `>` (62) outside one.
abbrev pub nests : Option (List (List ℕ)) → Option (List ℕ) → List ℕ → Bool
nests None tag bytes = false
nests (Some begun) None [] = is_none_begun begun
nests (Some begun) (Some tag) [] = false
nests (Some begun) None (b ∷ rest) =
    if b == 60 then nests (Some begun) (Some []) rest
    else if b == 62 then false
    else nests (Some begun) None rest
nests (Some begun) (Some tag) (b ∷ rest) =
    if b == 62 then nests (behind_tag begun tag) None rest
    else if b == 60 then false
    else nests (Some begun) (Some (tag ++ b ∷ [])) rest
