-- Trees as they are printed.
use Rattle.std.proofs.Common.{◌≡◌, ◌∙◌, refl, sym, ap, ℕ, List, [], ◌∷◌, ◌++◌, append_assoc, append-nil}
use Rattle.std.specs.List.{flat_map}
use Rattle.page_tree.specs.Trees.{Attribute, Trees, Nothing, Text, Element, Void, followed}
use Rattle.page_tree.specs.Print.{attribute_text, shown, opening, closing, printed}
use Rattle.sheet_page.specs.Trees.{all, each, el}

-- what trees that stand after one another print
pub printed-followed : (trees others : Trees) → printed (followed trees others) ≡ printed trees ++ printed others
printed-followed Nothing others = refl
printed-followed (Text text behind) others =
    ap (λ (l : List ℕ). shown text ++ l) (printed-followed behind others)
    ∙ sym (append_assoc (shown text) (printed behind) (printed others))
printed-followed (Element name attributes within behind) others =
    let front = opening name attributes in
    let rest = closing name ++ printed behind in
    ap (λ (l : List ℕ). front ++ (printed within ++ (closing name ++ l))) (printed-followed behind others)
    ∙ ap (λ (l : List ℕ). front ++ (printed within ++ l))
    (sym (append_assoc (closing name) (printed behind) (printed others)))
    ∙ ap (λ (l : List ℕ). front ++ l) (sym (append_assoc (printed within) rest (printed others)))
    ∙ sym (append_assoc front (printed within ++ rest) (printed others))
printed-followed (Void name attributes behind) others =
    ap (λ (l : List ℕ). opening name attributes ++ l) (printed-followed behind others)
    ∙ sym (append_assoc (opening name attributes) (printed behind) (printed others))

-- the pieces of attributes, and others after them
abbrev pub attribute_parts : List Attribute → List (List ℕ) → List (List ℕ)
attribute_parts [] rest = rest
attribute_parts (attribute ∷ attributes) rest = attribute_text attribute ∷ attribute_parts attributes rest

-- the pieces of the start of an element, and others after them: one piece if it has no attributes
abbrev pub started : (name : List ℕ) → List Attribute → List (List ℕ) → List (List ℕ)
started name [] rest = opening name [] ∷ rest
started name (attribute ∷ attributes) rest = (60 ∷ name) ∷ attribute_parts (attribute ∷ attributes) ((62 ∷ []) ∷ rest)

-- the pieces of a tree, and others after them
abbrev pub parts : Trees → List (List ℕ) → List (List ℕ)
parts Nothing rest = rest
parts (Text text behind) rest = shown text ∷ parts behind rest
parts (Element name attributes within behind) rest =
    started name attributes (parts within (closing name ∷ parts behind rest))
parts (Void name attributes behind) rest = started name attributes (parts behind rest)

abbrev pub joined : List (List ℕ) → List ℕ
joined pieces = flat_map (λ piece. piece) pieces

joined-attributes :
    (attributes : List Attribute) (rest : List (List ℕ))
    → joined (attribute_parts attributes rest) ≡ flat_map attribute_text attributes ++ joined rest
joined-attributes [] rest = refl
joined-attributes (attribute ∷ attributes) rest =
    ap (λ (l : List ℕ). attribute_text attribute ++ l) (joined-attributes attributes rest)
    ∙ sym (append_assoc (attribute_text attribute) (flat_map attribute_text attributes) (joined rest))

pub joined-started :
    (name : List ℕ) (attributes : List Attribute) (rest : List (List ℕ))
    → joined (started name attributes rest) ≡ opening name attributes ++ joined rest
joined-started name [] rest = refl
joined-started name (attribute ∷ attributes) rest =
    let all = attribute ∷ attributes in
    let held = flat_map attribute_text all in
    ap (λ (l : List ℕ). 60 ∷ (name ++ l)) (joined-attributes all ((62 ∷ []) ∷ rest))
    ∙ ap (λ (l : List ℕ). 60 ∷ (name ++ l)) (sym (append_assoc held (62 ∷ []) (joined rest)))
    ∙ ap (λ (l : List ℕ). 60 ∷ l) (sym (append_assoc name (held ++ 62 ∷ []) (joined rest)))

joined-parts : (trees : Trees) (rest : List (List ℕ)) → joined (parts trees rest) ≡ printed trees ++ joined rest
joined-parts Nothing rest = refl
joined-parts (Text text behind) rest =
    ap (λ (l : List ℕ). shown text ++ l) (joined-parts behind rest)
    ∙ sym (append_assoc (shown text) (printed behind) (joined rest))
joined-parts (Element name attributes within behind) rest =
    let front = opening name attributes in
    joined-started name attributes (parts within (closing name ∷ parts behind rest))
    ∙ ap (λ (l : List ℕ). front ++ l) (joined-parts within (closing name ∷ parts behind rest))
    ∙ ap (λ (l : List ℕ). front ++ (printed within ++ (closing name ++ l))) (joined-parts behind rest)
    ∙ ap (λ (l : List ℕ). front ++ (printed within ++ l)) (sym (append_assoc (closing name) (printed behind) (joined rest)))
    ∙ ap (λ (l : List ℕ). front ++ l) (sym (append_assoc (printed within) (closing name ++ printed behind) (joined rest)))
    ∙ sym (append_assoc front (printed within ++ (closing name ++ printed behind)) (joined rest))
joined-parts (Void name attributes behind) rest =
    joined-started name attributes (parts behind rest)
    ∙ ap (λ (l : List ℕ). opening name attributes ++ l) (joined-parts behind rest)
    ∙ sym (append_assoc (opening name attributes) (printed behind) (joined rest))

-- a tree, piece by piece
pub leaf : (trees : Trees) → joined (parts trees []) ≡ printed trees
leaf trees = joined-parts trees [] ∙ append-nil (printed trees)

-- trees one after another, and bytes after them
abbrev pub onto : List Trees → List ℕ → List ℕ
onto [] rest = rest
onto (tree ∷ trees) rest = printed tree ++ onto trees rest

onto-all : (trees : List Trees) (rest : List ℕ) → onto trees rest ≡ printed (all trees) ++ rest
onto-all [] rest = refl
onto-all (tree ∷ trees) rest =
    ap (λ (l : List ℕ). printed tree ++ l) (onto-all trees rest)
    ∙ sym (append_assoc (printed tree) (printed (all trees)) rest)
    ∙ ap (λ (l : List ℕ). l ++ rest) (sym (printed-followed tree (all trees)))

-- an element, tree by tree
pub wrapped :
    (name : List ℕ) (attributes : List Attribute) (trees : List Trees)
    → opening name attributes ++ onto trees (closing name) ≡ printed (el name attributes trees)
wrapped name attributes trees =
    ap (λ (l : List ℕ). opening name attributes ++ l)
    (ap (onto trees) (sym (append-nil (closing name))) ∙ onto-all trees (closing name ++ []))

-- two trees, one after the other
pub printed-two : (tree other : Trees) → printed tree ++ printed other ≡ printed (all (tree ∷ other ∷ []))
printed-two tree other =
    sym (printed-followed tree (followed other Nothing)
    ∙ ap (λ (l : List ℕ). printed tree ++ l) (printed-followed other Nothing ∙ append-nil (printed other)))

-- a tree for each item
pub printed-each :
    {X : Type 0} (tree : X → Trees) (items : List X)
    → flat_map (λ x. printed (tree x)) items ≡ printed (each tree items)
printed-each tree [] = refl
printed-each tree (x ∷ items) =
    ap (λ (l : List ℕ). printed (tree x) ++ l) (printed-each tree items) ∙ sym (printed-followed (tree x) (each tree items))

-- an element with trees within it that are written as they are
pub enclosed :
    (name : List ℕ) (attributes : List Attribute) (within : Trees)
    → opening name attributes ++ (printed within ++ closing name) ≡ printed (Element name attributes within Nothing)
enclosed name attributes within =
    ap (λ (l : List ℕ). opening name attributes ++ (printed within ++ l)) (sym (append-nil (closing name)))

-- trees, tree by tree, with the last one after them
pub one_by_one : (trees : List Trees) (last : Trees) → onto trees (printed last) ≡ printed (all (trees ++ last ∷ []))
one_by_one [] last = sym (printed-followed last Nothing ∙ append-nil (printed last))
one_by_one (tree ∷ trees) last =
    ap (λ (l : List ℕ). printed tree ++ l) (one_by_one trees last) ∙ sym (printed-followed tree (all (trees ++ last ∷ [])))
