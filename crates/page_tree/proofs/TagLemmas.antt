-- Tags as they are read.
use Rattle.std.proofs.Common.{◌≡◌, refl, sym, ap, subst, ◌∙◌, ℕ, Bool, true, false, not, cond, eqb, List, []}
use Rattle.std.proofs.Common.{◌∷◌, ◌++◌, Option, Some, None, ◌&&◌, inl, inr, arith, append_assoc, append-nil}
use Rattle.std.specs.Prelude.{codes}
use Rattle.std.specs.List.{list_all, flat_map}
use Rattle.std.specs.Str.{bytes_eq}
use Rattle.std.proofs.lemmas.Bool.{not-true, and_parts, and_from, false≢true}
use Rattle.std.proofs.lemmas.Bool.Decides.{eqb_tells}
use Rattle.std.proofs.lemmas.List.Elements.{All-head, All-tail}
use Rattle.std.proofs.lemmas.List.Folds.{list_all-append}
use Rattle.std.proofs.lemmas.Slice.Eq.{bytes_eq-Decides}
use Rattle.page_tree.specs.Trees.{Attribute, Trees, Nothing, Text, Element, Void, IsName, AreNamed}
use Rattle.page_tree.specs.Trees.{IsWellNamed, is_name_byte, is_void}
use Rattle.page_tree.specs.Print.{shown, attribute_text, opening, closing, printed}
use Rattle.page_tree.specs.Reading.{nests, behind_tag, ended, tag_name}
use Rattle.page_tree.specs.Laws.{is_plain}
use Rattle.page_tree.proofs.TextLemmas.{plain-shown}

-- neither begins nor ends a tag
abbrev within_tag : ℕ → Bool
within_tag b = not (eqb b 60) && not (eqb b 62)

plain-within : (b : ℕ) → is_plain b ≡ true → within_tag b ≡ true
plain-within b plain =
    let first = and_parts (not (eqb b 60)) (not (eqb b 62) && (not (eqb b 34) && not (eqb b 39))) plain in
    let second = and_parts (not (eqb b 62)) (not (eqb b 34) && not (eqb b 39)) first.1 in
    and_from (not (eqb b 60)) (not (eqb b 62)) first.0 second.0

-- no byte of a name is one that is no name's
name-other : (k : ℕ) → is_name_byte k ≡ false → (b : ℕ) → is_name_byte b ≡ true → eqb b k ≡ false
name-other k none b is =
    elim (eqb_tells b k) [
      | inl same ↦ absurd (false≢true (sym none ∙ subst (λ (c : ℕ). is_name_byte c ≡ true) same.1 is))
      | inr other ↦ other.0
    ]

name-within : (b : ℕ) → is_name_byte b ≡ true → within_tag b ≡ true
name-within b is =
    and_from (not (eqb b 60)) (not (eqb b 62)) (ap not (name-other 60 refl b is)) (ap not (name-other 62 refl b is))

all-weaker :
    (p q : ℕ → Bool) → ((b : ℕ) → p b ≡ true → q b ≡ true) → (xs : List ℕ) → list_all p xs ≡ true
    → list_all q xs ≡ true
all-weaker p q weaker [] all = refl
all-weaker p q weaker (x ∷ xs) all =
    let parts = and_parts (p x) (list_all p xs) all in
    and_from (q x) (list_all q xs) (weaker x parts.0) (all-weaker p q weaker xs parts.1)

all-append : (p : ℕ → Bool) (xs ys : List ℕ) → list_all p xs ≡ true → list_all p ys ≡ true → list_all p (xs ++ ys) ≡ true
all-append p xs ys first second = list_all-append p xs ys ∙ and_from (list_all p xs) (list_all p ys) first second

-- a text leaves the elements open that were
nests-text :
    (begun : List (List ℕ)) (xs rest : List ℕ) → list_all within_tag xs ≡ true
    → nests (Some begun) None (xs ++ rest) ≡ nests (Some begun) None rest
nests-text begun [] rest all = refl
nests-text begun (x ∷ xs) rest all =
    let parts = and_parts (within_tag x) (list_all within_tag xs) all in
    let tests = and_parts (not (eqb x 60)) (not (eqb x 62)) parts.0 in
    let no_start : eqb x 60 ≡ false = not-true (eqb x 60) tests.0 in
    let no_end : eqb x 62 ≡ false = not-true (eqb x 62) tests.1 in
    let after = nests (Some begun) None (xs ++ rest) in
    let start = nests (Some begun) (Some []) (xs ++ rest) in
    ap (λ b. cond b start (cond (eqb x 62) false after)) no_start
    ∙ ap (λ b. cond b false after) no_end
    ∙ nests-text begun xs rest (parts.1)

-- a tag is read up to its end
nests-tag :
    (begun : List (List ℕ)) (front xs rest : List ℕ) → list_all within_tag xs ≡ true
    → nests (Some begun) (Some front) (xs ++ 62 ∷ rest) ≡ nests (behind_tag begun (front ++ xs)) None rest
nests-tag begun front [] rest all = ap (λ (tag : List ℕ). nests (behind_tag begun tag) None rest) (sym (append-nil front))
nests-tag begun front (x ∷ xs) rest all =
    let parts = and_parts (within_tag x) (list_all within_tag xs) all in
    let tests = and_parts (not (eqb x 60)) (not (eqb x 62)) parts.0 in
    let no_start : eqb x 60 ≡ false = not-true (eqb x 60) tests.0 in
    let no_end : eqb x 62 ≡ false = not-true (eqb x 62) tests.1 in
    let after = nests (Some begun) (Some (front ++ x ∷ [])) (xs ++ 62 ∷ rest) in
    let ended_here = nests (behind_tag begun front) None (xs ++ 62 ∷ rest) in
    ap (λ b. cond b ended_here (cond (eqb x 60) false after)) no_end
    ∙ ap (λ b. cond b false after) no_start
    ∙ nests-tag begun (front ++ x ∷ []) xs rest parts.1
    ∙ ap (λ (tag : List ℕ). nests (behind_tag begun tag) None rest) (append_assoc front (x ∷ []) xs)

-- a name that ends where a tag goes on
tag_name-append :
    (name behind : List ℕ) → list_all is_name_byte name ≡ true → tag_name behind ≡ []
    → tag_name (name ++ behind) ≡ name
tag_name-append [] behind all none = none
tag_name-append (x ∷ name) behind all none =
    let parts = and_parts (is_name_byte x) (list_all is_name_byte name) all in
    ap (λ b. cond b [] (x ∷ tag_name (name ++ behind))) (name-other 32 refl x parts.0)
    ∙ ap (λ (l : List ℕ). x ∷ l) (tag_name-append name behind parts.1 none)

tag_name-attributes : (attributes : List Attribute) → tag_name (flat_map attribute_text attributes) ≡ []
tag_name-attributes [] = refl
tag_name-attributes (attribute ∷ attributes) = refl

attribute-within : (attribute : Attribute) → IsName attribute.name → list_all within_tag (attribute_text attribute) ≡ true
attribute-within attribute is =
    let value = shown attribute.value in
    all-append within_tag attribute.name (codes "=\"" ++ (value ++ 34 ∷ []))
    (all-weaker is_name_byte within_tag name-within attribute.name is.bytes)
    (all-append within_tag value (34 ∷ [])
    (all-weaker is_plain within_tag plain-within value (plain-shown attribute.value)) refl)

attributes-within :
    (attributes : List Attribute) → AreNamed attributes
    → list_all within_tag (flat_map attribute_text attributes) ≡ true
attributes-within [] are = refl
attributes-within (attribute ∷ attributes) are =
    let P : Attribute → Type 0 = λ a. IsName a.name in
    all-append within_tag (attribute_text attribute) (flat_map attribute_text attributes)
    (attribute-within attribute (All-head P attribute attributes are))
    (attributes-within attributes (All-tail P attribute attributes are))

-- what is open after the start of an element
abbrev started : List (List ℕ) → (name : List ℕ) → List (List ℕ)
started begun name = cond (is_void name) begun (name ∷ begun)

behind_tag-start :
    (begun : List (List ℕ)) (name behind : List ℕ) → IsName name → tag_name behind ≡ []
    → behind_tag begun (name ++ behind) ≡ Some (started begun name)
behind_tag-start begun [] behind is none = absurd (omega (arith, is.some))
behind_tag-start begun (x ∷ name) behind is none =
    let parts = and_parts (is_name_byte x) (list_all is_name_byte name) is.bytes in
    let whole : tag_name (x ∷ (name ++ behind)) ≡ x ∷ name = tag_name-append (x ∷ name) behind is.bytes none in
    let Open : Type 0 = Option (List (List ℕ)) in
    let choice : List ℕ → Open = λ n. cond (is_void n) (Some begun) (Some (n ∷ begun)) in
    ap (λ b. let o : Open =
    cond b (ended begun (name ++ behind)) (choice (tag_name (x ∷ (name ++ behind)))) in
    o) (name-other 47 refl x parts.0)
    ∙ ap choice whole
    ∙ either (is_void (x ∷ name)) (x ∷ name)
  where
    either : (b : Bool) (n : List ℕ) → cond b (Some begun) (Some (n ∷ begun)) ≡ Some (cond b begun (n ∷ begun))
    either true n = refl
    either false n = refl

-- the parts of a start, as they are read one after another
regroup_start :
    (name attributes rest : List ℕ)
    → (name ++ (attributes ++ 62 ∷ [])) ++ rest ≡ (name ++ attributes) ++ 62 ∷ rest
regroup_start name attributes rest =
    append_assoc name (attributes ++ 62 ∷ []) rest
    ∙ ap (λ (l : List ℕ). name ++ l) (append_assoc attributes (62 ∷ []) rest)
    ∙ sym (append_assoc name attributes (62 ∷ rest))

nests-start :
    (begun : List (List ℕ)) (name : List ℕ) (attributes : List Attribute) (rest : List ℕ) → IsName name
    → AreNamed attributes
    → nests (Some begun) None (opening name attributes ++ rest) ≡ nests (Some (started begun name)) None rest
nests-start begun name attributes rest is are =
    let values = flat_map attribute_text attributes in
    let inner =
    all-append within_tag name values (all-weaker is_name_byte within_tag name-within name is.bytes)
    (attributes-within attributes are) in
    ap (λ (l : List ℕ). nests (Some begun) (Some []) l) (regroup_start name values rest)
    ∙ nests-tag begun [] (name ++ values) rest inner
    ∙ ap (λ (o : Option (List (List ℕ))). nests o None rest)
    (behind_tag-start begun name values is (tag_name-attributes attributes))

nests-end :
    (begun : List (List ℕ)) (name rest : List ℕ) → IsName name
    → nests (Some (name ∷ begun)) None (closing name ++ rest) ≡ nests (Some begun) None rest
nests-end begun name rest is =
    let same : bytes_eq name name ≡ true = (bytes_eq-Decides name name).1 refl in
    ap (λ (l : List ℕ). nests (Some (name ∷ begun)) (Some (47 ∷ [])) l) (append_assoc name (62 ∷ []) rest)
    ∙ nests-tag (name ∷ begun) (47 ∷ []) name rest (all-weaker is_name_byte within_tag name-within name is.bytes)
    ∙ ap (λ b. nests (cond b (Some begun) None) None rest) same

-- the parts of an element, one after another
regroup_element :
    (start within end behind rest : List ℕ)
    → (start ++ (within ++ (end ++ behind))) ++ rest ≡ start ++ (within ++ (end ++ (behind ++ rest)))
regroup_element start within end behind rest = simp append_assoc

pub nests-printed :
    (trees : Trees) (begun : List (List ℕ)) (rest : List ℕ) → IsWellNamed trees
    → nests (Some begun) None (printed trees ++ rest) ≡ nests (Some begun) None rest
nests-printed Nothing begun rest well = refl
nests-printed (Text text behind) begun rest well =
    ap (nests (Some begun) None) (append_assoc (shown text) (printed behind) rest)
    ∙ nests-text begun (shown text) (printed behind ++ rest)
    (all-weaker is_plain within_tag plain-within (shown text) (plain-shown text))
    ∙ nests-printed behind begun rest well
nests-printed (Element name attributes within behind) begun rest well =
    let end = closing name ++ (printed behind ++ rest) in
    ap (nests (Some begun) None)
    (regroup_element (opening name attributes) (printed within) (closing name) (printed behind) rest)
    ∙ nests-start begun name attributes (printed within ++ end) well.0 well.1
    ∙ ap (λ b. nests (Some (cond b begun (name ∷ begun))) None (printed within ++ end)) well.2
    ∙ nests-printed within (name ∷ begun) end well.3
    ∙ nests-end begun name (printed behind ++ rest) well.0
    ∙ nests-printed behind begun rest well.4
nests-printed (Void name attributes behind) begun rest well =
    ap (nests (Some begun) None) (append_assoc (opening name attributes) (printed behind) rest)
    ∙ nests-start begun name attributes (printed behind ++ rest) well.0 well.1
    ∙ ap (λ b. nests (Some (cond b begun (name ∷ begun))) None (printed behind ++ rest)) well.2
    ∙ nests-printed behind begun rest well.3

pub elements-nest : (trees : Trees) → IsWellNamed trees → nests (Some []) None (printed trees) ≡ true
elements-nest trees well =
    ap (nests (Some []) None) (sym (append-nil (printed trees))) ∙ nests-printed trees [] [] well
