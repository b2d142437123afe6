-- A walk along a path of names, over trees that are put together.
use Rattle.std.proofs.Common.{◌≡◌, ◌∙◌, refl, sym, ap, ℕ, ◌+◌, Bool, true, false, zero, suc, List, [], ◌∷◌, ◌++◌}
use Rattle.std.proofs.Common.{map, length, inl, inr, eq-eqb, ne_eqb, arith}
use Rattle.std.specs.Prelude.{◌||◌, not, if◌then◌else◌, nat_eq}
use Rattle.std.specs.List.{filter, flat_map, range_with_len}
use Rattle.std.specs.Str.{bytes_eq}
use Rattle.std.proofs.lemmas.Bool.Decides.{eqb_tells}
use Rattle.std.proofs.lemmas.List.{map-append}
use Rattle.std.proofs.lemmas.List.Concat.{flat_map-append}
use Rattle.candidate_roll.specs.declared.state.State.{State}
use Rattle.meek_rule.specs.Row.{Row}
use Rattle.page_tree.specs.Trees.{Trees, Nothing, Text, Element, Void, followed}
use Rattle.sheet_minutes.specs.Rounds.{ends_round, row_at}
use Rattle.sheet_page.specs.PageLaws.{round_ends}
use Rattle.sheet_page.specs.PageReading.{children, along}
use Rattle.sheet_page.specs.RoundEnds.{settled}
use Rattle.sheet_page.specs.Trees.{each}
use Rattle.sheet_page.specs.Values.{all_places}

-- ---- lists

-- nothing for each
abbrev pub no_part : {X Y : Type 0} → X → List Y
no_part x = []

pub no_parts : {X Y : Type 0} (xs : List X) → flat_map (no_part {X = X} {Y = Y}) xs ≡ []
no_parts [] = refl
no_parts (x ∷ xs) = no_parts xs

-- one for each that a test picks
pub picked : {X Y : Type 0} (test : X → Bool) (f : X → Y) (xs : List X)
    → flat_map (λ x. if test x then f x ∷ [] else []) xs ≡ map f (filter test xs)
picked test f [] = refl
picked test f (x ∷ xs) = by (test x) (picked test f xs)
  where
    by : (b : Bool) → flat_map (λ y. if test y then f y ∷ [] else []) xs ≡ map f (filter test xs)
        → (if b then f x ∷ [] else []) ++ flat_map (λ y. if test y then f y ∷ [] else []) xs
        ≡ map f (if b then x ∷ filter test xs else filter test xs)
    by true more = ap (λ ys. f x ∷ ys) more
    by false more = more

-- ---- trees one after another

pub behind_nothing : (trees : Trees) → followed trees Nothing ≡ trees
behind_nothing Nothing = refl
behind_nothing (Text text behind) = ap (λ t. Text text t) (behind_nothing behind)
behind_nothing (Element name attributes within behind) = ap (λ t. Element name attributes within t) (behind_nothing behind)
behind_nothing (Void name attributes behind) = ap (λ t. Void name attributes t) (behind_nothing behind)

children_followed :
    (name : List ℕ) (trees others : Trees)
    → children name (followed trees others) ≡ children name trees ++ children name others
children_followed name Nothing others = refl
children_followed name (Text text behind) others = children_followed name behind others
children_followed name (Element other attributes within behind) others =
    by (bytes_eq other name) (children_followed name behind others)
  where
    by : (b : Bool) → children name (followed behind others) ≡ children name behind ++ children name others
        → (if b then within ∷ children name (followed behind others) else children name (followed behind others))
        ≡ (if b then within ∷ children name behind else children name behind) ++ children name others
    by true more = ap (λ ts. within ∷ ts) more
    by false more = more
children_followed name (Void other attributes behind) others = children_followed name behind others

-- ---- what is found along a path

module _ {X : Type 0} (h : Trees → X) (name : List ℕ) (path : List (List ℕ)) where
  -- what a function says of all that the path leads to
  abbrev pub found : Trees → List X
  found trees = map h (along (name ∷ path) trees)

  pub found_followed : (trees others : Trees) → found (followed trees others) ≡ found trees ++ found others
  found_followed trees others =
      ap (λ ts. map h (flat_map (along path) ts)) (children_followed name trees others)
      ∙ ap (map h) (flat_map-append (along path) (children name trees) (children name others))
      ∙ map-append h (along (name ∷ path) trees) (along (name ∷ path) others)

  pub found_each :
      {Y : Type 0} (tree : Y → Trees) (items : List Y)
      → found (each tree items) ≡ flat_map (λ x. found (tree x)) items
  found_each tree [] = refl
  found_each tree (x ∷ items) =
      found_followed (tree x) (each tree items) ∙ ap (λ l. found (tree x) ++ l) (found_each tree items)

  -- in a tree that is there if a test holds
  pub found_if : (b : Bool) (tree : Trees) → found (if b then tree else Nothing) ≡ (if b then found tree else [])
  found_if true tree = refl
  found_if false tree = refl

-- ---- the ends of rounds

pub shifted : {X : Type 0} (f g : ℕ → List X) → ((i : ℕ) → f (suc i) ≡ g i) → (a n : ℕ)
    → flat_map f (range_with_len (suc a) n) ≡ flat_map g (range_with_len a n)
shifted f g same a zero = refl
shifted f g same a (suc n) =
    let next : suc a + 1 ≡ suc (a + 1) = omega arith in
    ap (λ k. f (suc a) ++ flat_map f (range_with_len k n)) next
    ∙ ap (λ l. f (suc a) ++ l) (shifted f g same (a + 1) n)
    ∙ ap (λ l. l ++ flat_map g (range_with_len (a + 1) n)) (same a)

one_less : (a b : ℕ) → nat_eq (suc a) (suc b) ≡ nat_eq a b
one_less a b =
    elim (eqb_tells a b) [
      | inl same ↦ eq-eqb (suc a) (suc b) (ap suc same.1) ∙ sym same.0
      | inr other ↦ ne_eqb (suc a) (suc b) (λ e. other.1 (omega (arith, e))) ∙ sym other.0
    ]

pub ends_behind : (row : Row) (rows : List Row) (i : ℕ) → ends_round (row ∷ rows) (suc i) ≡ ends_round rows i
ends_behind row rows i =
    let next : suc i + 1 ≡ suc (i + 1) = omega arith in
    let here = nat_eq (row_at rows i).round (row_at rows (i + 1)).round in
    ap (λ k. nat_eq k (suc (length rows)) || not (nat_eq (row_at rows i).round (row_at (row ∷ rows) k).round)) next
    ∙ ap (λ b. b || not here) (one_less (i + 1) (length rows))

pub first_ends : (row next : Row) (rows : List Row) → ends_round (row ∷ next ∷ rows) 0 ≡ not (nat_eq row.round next.round)
first_ends row next rows =
    ap (λ b. b || not (nat_eq row.round next.round)) (ne_eqb 1 (length (row ∷ next ∷ rows)) (λ e. omega (arith, e)))

-- an iteration with what the candidates are after it
abbrev settled_in : List Row → (last : List State) → (i : ℕ) → Row
settled_in rows last i = settled (row_at rows i) (if nat_eq (i + 1) (length rows) then last else (row_at rows (i + 1)).states)

settled_behind :
    (row : Row) (rows : List Row) (last : List State) (i : ℕ)
    → settled_in (row ∷ rows) last (suc i) ≡ settled_in rows last i
settled_behind row rows last i =
    let next : suc i + 1 ≡ suc (i + 1) = omega arith in
    ap (λ k. settled (row_at rows i) (if nat_eq k (suc (length rows)) then last else (row_at (row ∷ rows) k).states)) next
    ∙ ap (λ b. settled (row_at rows i) (if b then last else (row_at rows (i + 1)).states)) (one_less (i + 1) (length rows))

first_settled :
    (row next : Row) (rows : List Row) (last : List State)
    → settled_in (row ∷ next ∷ rows) last 0 ≡ settled row next.states
first_settled row next rows last =
    ap (λ b. settled row (if b then last else next.states))
    (ne_eqb 1 (length (row ∷ next ∷ rows)) (λ e. omega (arith, e)))

-- what is found at the ends of rounds, place by place
abbrev at_end : {X : Type 0} → (Row → List X) → List Row → (last : List State) → (i : ℕ) → List X
at_end g rows last i = if ends_round rows i then g (settled_in rows last i) else []

pub at_ends : {X : Type 0} (g : Row → List X) (rows : List Row) (last : List State)
    → flat_map (at_end g rows last) (all_places (length rows))
    ≡ flat_map g (round_ends rows last)
at_ends g [] last = refl
at_ends g (row ∷ []) last = refl
at_ends g (row ∷ next ∷ rows) last =
    let all = row ∷ next ∷ rows in
    let behind = flat_map g (round_ends (next ∷ rows) last) in
    ap (λ l. at_end g all last 0 ++ l)
    (shifted (at_end g all last) (at_end g (next ∷ rows) last) later 0 (length (next ∷ rows))
    ∙ at_ends g (next ∷ rows) last)
    ∙ ap (λ b. (if b then g (settled_in all last 0) else []) ++ behind) (first_ends row next rows)
    ∙ ap (λ r. (if not (nat_eq row.round next.round) then g r else []) ++ behind) (first_settled row next rows last)
    ∙ by (nat_eq row.round next.round)
  where
    later : (i : ℕ) → at_end g (row ∷ next ∷ rows) last (suc i) ≡ at_end g (next ∷ rows) last i
    later i =
        ap (λ b. if b then g (settled_in (row ∷ next ∷ rows) last (suc i)) else []) (ends_behind row (next ∷ rows) i)
        ∙ ap (λ r. if ends_round (next ∷ rows) i then g r else []) (settled_behind row (next ∷ rows) last i)

    by : (b : Bool) → (if not b then g (settled row next.states) else []) ++ flat_map g (round_ends (next ∷ rows) last)
        ≡ flat_map g (if b then round_ends (next ∷ rows) last else settled row next.states ∷ round_ends (next ∷ rows) last)
    by true = refl
    by false = refl
