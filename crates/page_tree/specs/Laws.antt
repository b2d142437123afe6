-- What holds of every printed page.
use Rattle.std.specs.Prelude.{◌≡◌, ◌==◌, ◌&&◌, not, ℕ, Bool, true, List, [], Some, None}
use Rattle.std.specs.List.{list_all}
use Rattle.page_tree.specs.Trees.{Trees, IsWellNamed}
use Rattle.page_tree.specs.Escaping.{readable}
use Rattle.page_tree.specs.Print.{shown, printed}
use Rattle.page_tree.specs.Reading.{read_text, nests}

-- a text read back is the text
abbrev pub TextsReadBack : Type 0
TextsReadBack = (text : List ℕ) → read_text None (shown text) ≡ readable text

-- no `<` (60), `>` (62) or quote (34, 39)
abbrev pub is_plain : ℕ → Bool
is_plain b = not (b == 60) && (not (b == 62) && (not (b == 34) && not (b == 39)))

-- a text, or the value of an attribute, holds none of these as it is printed
abbrev pub TextsArePlain : Type 0
TextsArePlain = (text : List ℕ) → list_all is_plain (shown text) ≡ true

-- elements nest, and each is closed
abbrev pub ElementsNest : Type 0
ElementsNest = (trees : Trees) → IsWellNamed trees → nests (Some []) None (printed trees) ≡ true
