-- A page as a tree of elements and texts.
use Rattle.std.specs.Prelude.{ℕ, Bool, true, false, ◌||◌, ◌≡◌, ◌≤◌, ◌==◌, List, [], ◌∷◌, codes, length, All}
use Rattle.std.specs.List.{list_any, list_all}
use Rattle.std.specs.Str.{bytes_eq}
use Rattle.std.specs.Char.{is_ascii_alphanumeric}

pub record Attribute : Type 0 where
  pub name : List ℕ
  pub value : List ℕ

-- Trees, one after another: none, or a text, an element with what is within it, or an element that can have nothing within
-- it, and the trees after it.
pub data Trees : Type 0 where
  Nothing : Trees
  Text : (text : List ℕ) (behind : Trees) → Trees
  Element : (name : List ℕ) (attributes : List Attribute) (within behind : Trees) → Trees
  Void : (name : List ℕ) (attributes : List Attribute) (behind : Trees) → Trees

-- trees and others after them
abbrev pub followed : Trees → Trees → Trees
followed Nothing others = others
followed (Text text behind) others = Text text (followed behind others)
followed (Element name attributes within behind) others = Element name attributes within (followed behind others)
followed (Void name attributes behind) others = Void name attributes (followed behind others)

-- the elements that have nothing within them and no end, by the standard of HTML
abbrev pub is_void : (name : List ℕ) → Bool
is_void name =
    list_any (bytes_eq name) (
    codes "area" ∷ codes "base" ∷ codes "br" ∷ codes "col" ∷ codes "embed" ∷ codes "hr" ∷ codes "img"
    ∷ codes "input" ∷ codes "link" ∷ codes "meta" ∷ codes "source" ∷ codes "track" ∷ codes "wbr" ∷ []
    )

-- letters, digits and hyphens (45)
abbrev pub is_name_byte : ℕ → Bool
is_name_byte b = is_ascii_alphanumeric b || (b == 45)

pub record IsName (name : List ℕ) : Type 0 where
  pub some : 1 ≤ length name
  pub bytes : list_all is_name_byte name ≡ true

abbrev pub AreNamed : List Attribute → Type 0
AreNamed attributes = All (λ attribute. IsName attribute.name) attributes

-- Names are names, and an element has an end just where it can have something within it.
abbrev pub IsWellNamed : Trees → Type 0
IsWellNamed Nothing = Unit {0}
IsWellNamed (Text text behind) = IsWellNamed behind
IsWellNamed (Element name attributes within behind) =
    IsName name × AreNamed attributes × (is_void name ≡ false) × IsWellNamed within × IsWellNamed behind
IsWellNamed (Void name attributes behind) =
    IsName name × AreNamed attributes × (is_void name ≡ true) × IsWellNamed behind
