-- Trees of well named elements, by a test.
use Rattle.std.proofs.Common.{◌≡◌, refl, ℕ, List, [], ◌∷◌, Bool, true, false, arith}
use Rattle.std.specs.Prelude.{◌&&◌, not, if◌then◌else◌}
use Rattle.std.specs.List.{list_all}
use Rattle.std.proofs.lemmas.Bool.{and_parts}
use Rattle.std.proofs.lemmas.List.Elements.{All-nil, All-cons}
use Rattle.page_tree.specs.Trees.{Attribute, Trees, Nothing, Text, Element, Void, followed, is_void}
use Rattle.page_tree.specs.Trees.{is_name_byte, IsName, AreNamed, IsWellNamed}
use Rattle.sheet_page.specs.Trees.{all, each, el}

-- ---- names, tested

abbrev pub is_named : List ℕ → Bool
is_named [] = false
is_named (b ∷ name) = list_all is_name_byte (b ∷ name)

abbrev pub all_named : List Attribute → Bool
all_named [] = true
all_named (attribute ∷ attributes) = is_named attribute.name && all_named attributes

abbrev pub tested : Trees → Bool
tested Nothing = true
tested (Text text behind) = tested behind
tested (Element name attributes within behind) =
    is_named name && (all_named attributes && (not (is_void name) && (tested within && tested behind)))
tested (Void name attributes behind) = is_named name && (all_named attributes && (is_void name && tested behind))

named : (name : List ℕ) → is_named name ≡ true → IsName name
named [] is = cc
named (b ∷ name) is = record { some = omega arith; bytes = is }

attributes_named : (attributes : List Attribute) → all_named attributes ≡ true → AreNamed attributes
attributes_named [] are = All-nil (λ (a : Attribute). IsName a.name)
attributes_named (attribute ∷ attributes) are =
    let both = and_parts (is_named attribute.name) (all_named attributes) are in
    All-cons (λ (a : Attribute). IsName a.name) attribute attributes (named attribute.name both.0)
    (attributes_named attributes both.1)

not_void : (b : Bool) → not b ≡ true → b ≡ false
not_void true is = cc
not_void false is = refl

pub sound : (trees : Trees) → tested trees ≡ true → IsWellNamed trees
sound Nothing is = tt
sound (Text text behind) is = sound behind is
sound (Element name attributes within behind) is =
    let a =
    and_parts (is_named name)
    (all_named attributes && (not (is_void name) && (tested within && tested behind))) is in
    let b = and_parts (all_named attributes) (not (is_void name) && (tested within && tested behind)) a.1 in
    let c = and_parts (not (is_void name)) (tested within && tested behind) b.1 in
    let d = and_parts (tested within) (tested behind) c.1 in
    (named name a.0, attributes_named attributes b.0, not_void (is_void name) c.0, sound within d.0, sound behind d.1)
sound (Void name attributes behind) is =
    let a = and_parts (is_named name) (all_named attributes && (is_void name && tested behind)) is in
    let b = and_parts (all_named attributes) (is_void name && tested behind) a.1 in
    let c = and_parts (is_void name) (tested behind) b.1 in
    (named name a.0, attributes_named attributes b.0, c.0, sound behind c.1)

-- ---- trees that are put together

both_true : (x y : Bool) → x ≡ true → y ≡ true → (x && y) ≡ true
both_true true true one other = refl
both_true true false one other = cc
both_true false y one other = cc

pub tested_followed : (trees others : Trees) → tested trees ≡ true → tested others ≡ true → tested (followed trees others) ≡ true
tested_followed Nothing others one other = other
tested_followed (Text text behind) others one other = tested_followed behind others one other
tested_followed (Element name attributes within behind) others one other =
    let a =
    and_parts (is_named name)
    (all_named attributes && (not (is_void name) && (tested within && tested behind))) one in
    let b = and_parts (all_named attributes) (not (is_void name) && (tested within && tested behind)) a.1 in
    let c = and_parts (not (is_void name)) (tested within && tested behind) b.1 in
    let d = and_parts (tested within) (tested behind) c.1 in
    both_true _ _ a.0 (both_true _ _ b.0 (both_true _ _ c.0 (both_true _ _ d.0 (tested_followed behind others d.1 other))))
tested_followed (Void name attributes behind) others one other =
    let a = and_parts (is_named name) (all_named attributes && (is_void name && tested behind)) one in
    let b = and_parts (all_named attributes) (is_void name && tested behind) a.1 in
    let c = and_parts (is_void name) (tested behind) b.1 in
    both_true _ _ a.0 (both_true _ _ b.0 (both_true _ _ c.0 (tested_followed behind others c.1 other)))

abbrev pub Tested : List Trees → Type 0
Tested [] = Unit {0}
Tested (tree ∷ trees) = (tested tree ≡ true) × Tested trees

pub tested_all : (trees : List Trees) → Tested trees → tested (all trees) ≡ true
tested_all [] are = refl
tested_all (tree ∷ trees) are = tested_followed tree (all trees) are.0 (tested_all trees are.1)

pub tested_each :
    {X : Type 0} (tree : X → Trees) (items : List X) → ((x : X) → tested (tree x) ≡ true)
    → tested (each tree items) ≡ true
tested_each tree [] are = refl
tested_each tree (x ∷ items) are = tested_followed (tree x) (each tree items) (are x) (tested_each tree items are)

pub tested_el :
    (name : List ℕ) (attributes : List Attribute) (trees : List Trees) → is_named name ≡ true
    → all_named attributes ≡ true → not (is_void name) ≡ true → Tested trees
    → tested (el name attributes trees) ≡ true
tested_el name attributes trees is are not_one within =
    both_true _ _ is (both_true _ _ are (both_true _ _ not_one (both_true _ _ (tested_all trees within) refl)))

pub tested_if : (b : Bool) (tree : Trees) → tested tree ≡ true → tested (if b then tree else Nothing) ≡ true
tested_if true tree is = is
tested_if false tree is = refl
