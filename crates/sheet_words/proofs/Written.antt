-- Items written one after another, each by its own text.
use Rattle.std.proofs.Common.{◌≡◌, ◌∙◌, ap, sym, subst, arith, ℕ, ◌+◌, ◌<◌, List, [], ◌∷◌, ◌++◌, length, map}
use Rattle.std.proofs.Common.{take, get_or, Option}
use Rattle.std.proofs.Common.{Result, IsErr, refl}
use Rattle.std.specs.List.{flat_map}
use Rattle.std.specs.Prelude.{Some, slice_get, slice_index_or}
use Rattle.std.proofs.lemmas.List.{map-append}
use Rattle.std.proofs.lemmas.List.Concat.{flat_map-append}
use Rattle.std.proofs.lemmas.List.FromFn.{get_or-range_with_len, length-range_with_len}
use Rattle.std.proofs.lemmas.List.Folds.{flat_map-map}
use Rattle.std.proofs.lemmas.Option.{get_or_from_slice_get}
use Rattle.piece_text.specs.Writing.{Wrote, Stopped, Writes}
use Rattle.piece_text.proofs.Written.{wrote_nothing, later as written_later, stops as written_stops, wrote_more, stopped_at}
use Rattle.sheet_reader.specs.Values.{SheetList}
use Rattle.sheet_words.specs.Groups.{all_places}
use Rattle.sheet_words.specs.Manner.{Manner, said, told}

-- texts that stand after others
pub said-append : (m : Manner) (xs ys : List (List ℕ)) → said m (xs ++ ys) ≡ said m xs ++ said m ys
unfolding said
said-append m xs ys = flat_map-append m.voiced xs ys

-- no texts
pub said_nothing : {S : Type 0} (w : S → Option (List ℕ)) (f : S → ℕ) (a : S) (m : Manner) → Wrote w f a a (said m [])
unfolding said
said_nothing w f a m = wrote_nothing w f a

-- the same texts by other names
pub renamed :
    {S T E : Type 0} (w : S → Option (List ℕ)) (f : S → ℕ) (a b : S) (m : Manner) (xs ys : List (List ℕ))
    (r : Result T E) → xs ≡ ys → Writes w f a b (said m xs) r → Writes w f a b (said m ys) r
renamed w f a b m xs ys r same done = subst (λ (l : List (List ℕ)). Writes w f a b (said m l) r) same done

-- the same sentence by other names
pub retold :
    {S T E : Type 0} (w : S → Option (List ℕ)) (f : S → ℕ) (a b : S) (m : Manner) (xs ys : List (List ℕ))
    (r : Result T E) → xs ≡ ys → Writes w f a b (told m xs) r → Writes w f a b (told m ys) r
retold w f a b m xs ys r same done = subst (λ (l : List (List ℕ)). Writes w f a b (told m l) r) same done

-- a candidate's name, as it is got
pub name_is :
    (v w : SheetList) (p : ℕ) (name : List ℕ) → w ≡ v → slice_get w.names p ≡ Some name → name ≡ slice_index_or v.names p []
name_is v w p name same got =
    sym (get_or_from_slice_get v.names p name [] (subst (λ (u : SheetList). slice_get u.names p ≡ Some name) same got))

-- after texts that were said, further ones
pub later :
    {S T E : Type 0} {w : S → Option (List ℕ)} {f : S → ℕ} {a b : S} (m : Manner) (xs : List (List ℕ)) (c : S)
    (ys : List (List ℕ)) (r : Result T E) → Wrote w f a b (said m xs) → Writes w f b c (said m ys) r
    → Writes w f a c (said m (xs ++ ys)) r
later {w} {f} {a} m xs c ys r done next =
    subst (λ (l : List ℕ). Writes w f a c l r) (sym (said-append m xs ys)) (written_later c (said m ys) r done next)

-- a failure within the first of some texts
pub stops :
    {S T E : Type 0} {w : S → Option (List ℕ)} {f : S → ℕ} {a b : S} (m : Manner) (xs : List (List ℕ))
    (ys : List (List ℕ)) (r : Result T E) → IsErr r → Stopped w f a b (said m xs)
    → Writes w f a b (said m (xs ++ ys)) r
stops {w} {f} {a} {b} m xs ys r failed stopped =
    subst (λ (l : List ℕ). Writes w f a b l r) (sym (said-append m xs ys)) (written_stops (said m ys) r failed stopped)

-- the texts of each item
pub said-flat_map :
    {X : Type 0} (m : Manner) (texts : X → List (List ℕ)) (xs : List X)
    → flat_map (λ x. said m (texts x)) xs ≡ said m (flat_map texts xs)
unfolding said
said-flat_map m texts [] = refl
said-flat_map m texts (x ∷ xs) =
    ap (λ (l : List ℕ). said m (texts x) ++ l) (said-flat_map m texts xs) ∙ sym (said-append m (texts x) (flat_map texts xs))

-- one text of each item
pub said-map :
    {X : Type 0} (m : Manner) (text : X → List ℕ) (xs : List X)
    → flat_map (λ x. m.voiced (text x)) xs ≡ said m (map text xs)
unfolding said
said-map m text xs = sym (flat_map-map m.voiced text xs)

-- the sentences of some items, which stand after those of others
pub mapped-append :
    {X Y : Type 0} (g : Y → List ℕ) (h : X → Y) (xs ys : List X)
    → flat_map g (map h (xs ++ ys)) ≡ flat_map g (map h xs) ++ flat_map g (map h ys)
mapped-append g h xs ys =
    ap (flat_map g) (map-append h xs ys) ∙ flat_map-append g (map h xs) (map h ys)

-- the sentences of the items of each item
pub nested :
    {X Y : Type 0} (g : Y → List ℕ) (m : X → List Y) (xs : List X)
    → flat_map (λ x. flat_map g (m x)) xs ≡ flat_map g (flat_map m xs)
nested g m [] = refl
nested g m (x ∷ xs) =
    ap (λ (l : List ℕ). flat_map g (m x) ++ l) (nested g m xs) ∙ sym (flat_map-append g (m x) (flat_map m xs))

pub mapped-nested :
    {X Y Z : Type 0} (g : Z → List ℕ) (h : Y → Z) (m : X → List Y) (xs : List X)
    → flat_map (λ x. flat_map g (map h (m x))) xs ≡ flat_map g (map h (flat_map m xs))
mapped-nested g h m [] = refl
mapped-nested g h m (x ∷ xs) =
    ap (λ (l : List ℕ). flat_map g (map h (m x)) ++ l) (mapped-nested g h m xs)
    ∙ sym (mapped-append g h (m x) (flat_map m xs))

-- ---- what is written for each of some items, of which x is the next

module _ {X : Type 0} (h : X → List ℕ) where
  pub item_wrote :
      {S : Type 0} {w : S → Option (List ℕ)} {f : S → ℕ} {a b c : S} (xs : List X) (i : ℕ) (x : X)
      → x ≡ get_or xs i x → i < length xs → Wrote w f a b (flat_map h (take i xs)) → Wrote w f b c (h x)
      → Wrote w f a c (flat_map h (take (i + 1) xs))
  item_wrote {w} {f} {a} {b} {c} xs i x is below done next =
      wrote_more h xs i x below done (subst (λ (y : X). Wrote w f b c (h y)) is next)

  pub item_stopped :
      {S T E : Type 0} {w : S → Option (List ℕ)} {f : S → ℕ} {a b c : S} (xs : List X) (i : ℕ) (x : X)
      (r : Result T E) → x ≡ get_or xs i x → IsErr r → i < length xs → Wrote w f a b (flat_map h (take i xs))
      → Stopped w f b c (h x) → Writes w f a c (flat_map h xs) r
  item_stopped {w} {f} {a} {b} {c} xs i x r is failed below done next =
      stopped_at h xs i x r failed below done (subst (λ (y : X). Stopped w f b c (h y)) is next)

-- ---- what is written for each of n places

module _ (h : ℕ → List ℕ) where
  pub place_wrote :
      {S : Type 0} {w : S → Option (List ℕ)} {f : S → ℕ} {a b c : S} (n p : ℕ) → p < n
      → Wrote w f a b (flat_map h (take p (all_places n))) → Wrote w f b c (h p)
      → Wrote w f a c (flat_map h (take (p + 1) (all_places n)))
  place_wrote {w} {f} {a} {b} {c} n p below done next =
      let at : get_or (all_places n) p 0 ≡ p = get_or-range_with_len 0 n p 0 below ∙ omega arith in
      wrote_more h (all_places n) p 0 (omega (arith, length-range_with_len 0 n)) done
      (subst (λ (q : ℕ). Wrote w f b c (h q)) (sym at) next)

  pub place_stopped :
      {S T E : Type 0} {w : S → Option (List ℕ)} {f : S → ℕ} {a b c : S} (n p : ℕ) (r : Result T E)
      → IsErr r → p < n → Wrote w f a b (flat_map h (take p (all_places n))) → Stopped w f b c (h p)
      → Writes w f a c (flat_map h (all_places n)) r
  place_stopped {w} {f} {a} {b} {c} n p r failed below done next =
      let at : get_or (all_places n) p 0 ≡ p = get_or-range_with_len 0 n p 0 below ∙ omega arith in
      stopped_at h (all_places n) p 0 r failed (omega (arith, length-range_with_len 0 n)) done
      (subst (λ (q : ℕ). Stopped w f b c (h q)) (sym at) next)
