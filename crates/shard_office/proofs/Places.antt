-- Places of a list.
use Rattle.std.proofs.Common.{◌≡◌, ◌≢◌, ◌⊎◌, ℕ, zero, suc, ◌<◌, List, [], ◌∷◌, ◌++◌, length, take, set, map}
use Rattle.std.proofs.Common.{get_or, refl, sym, ap, inl, inr, ⊎_elim, arith, ◌∙◌}
use Rattle.std.specs.Prelude.{slice_get, Some}

module _ {A : Type 0} where
  pub get_in : (l : List A) (s : ℕ) (x : A) → s < length l → x ≡ get_or l s x → slice_get l s ≡ Some x
  get_in [] s x lt is = absurd (omega arith)
  get_in (y ∷ ys) zero x lt is = ap Some (sym is)
  get_in (y ∷ ys) (suc s) x lt is = get_in ys s x (omega arith) is

  pub get_lt : (l : List A) (s : ℕ) (x : A) → slice_get l s ≡ Some x → s < length l
  get_lt [] s x e = absurd (cc)
  get_lt (y ∷ ys) zero x e = omega arith
  get_lt (y ∷ ys) (suc s) x e = let h = get_lt ys s x e in omega arith

  pub get_some : (l : List A) (s : ℕ) → s < length l → (x : A) × (slice_get l s ≡ Some x)
  get_some [] s lt = absurd (omega arith)
  get_some (y ∷ ys) zero lt = (y, refl)
  get_some (y ∷ ys) (suc s) lt = get_some ys s (omega arith)

  pub get_map :
      {B : Type 0} (f : A → B) (l : List A) (s : ℕ) (x : A) → slice_get l s ≡ Some x
      → slice_get (map f l) s ≡ Some (f x)
  get_map f [] s x e = absurd (cc)
  get_map f (y ∷ ys) zero x e = let is : y ≡ x = cc in ap (λ z. Some (f z)) is
  get_map f (y ∷ ys) (suc s) x e = get_map f ys s x e

  pub get_set :
      (l : List A) (i j : ℕ) (a b : A) → slice_get (set l i a) j ≡ Some b
      → ((j ≡ i) × (a ≡ b)) ⊎ ((j ≢ i) × (slice_get l j ≡ Some b))
  get_set [] i j a b e = absurd (cc)
  get_set (x ∷ xs) zero zero a b e = inl (refl, cc)
  get_set (x ∷ xs) zero (suc j) a b e = inr ((λ h. omega arith), e)
  get_set (x ∷ xs) (suc i) zero a b e = inr ((λ h. omega arith), e)
  get_set (x ∷ xs) (suc i) (suc j) a b e =
      ⊎_elim (λ t. inl (ap suc t.0, t.1)) (λ t. let n = t.0 in inr ((λ h. n (omega arith)), t.1))
      (get_set xs i j a b e)

  pub map_same :
      {B : Type 0} (f : A → B) (l : List A) (s : ℕ) (x y : A) → slice_get l s ≡ Some x → f y ≡ f x
      → map f (set l s y) ≡ map f l
  map_same f [] s x y e same = refl
  map_same f (z ∷ zs) zero x y e same = let is : z ≡ x = cc in λ i. (same ∙ ap f (sym is)) i ∷ map f zs
  map_same f (z ∷ zs) (suc s) x y e same = λ i. f z ∷ map_same f zs s x y e same i

  -- what is at a place of a list's image, where the element is read at that place
  pub found :
      {B : Type 0} (f : A → B) (l : List A) (s : ℕ) (t : B) (x : A) → slice_get (map f l) s ≡ Some t
      → x ≡ get_or l s x → slice_get l s ≡ Some x
  found f [] s t x e is = absurd (cc)
  found f (h ∷ hs) zero t x e is = ap Some (sym is)
  found f (h ∷ hs) (suc s) t x e is = found f hs s t x e is

  pub length_map : {B : Type 0} (f : A → B) (l : List A) → length (map f l) ≡ length l
  length_map f [] = refl
  length_map f (x ∷ xs) = ap suc (length_map f xs)

-- lists of which the same is read at each place
pub map_each : {A B C : Type 0} (f : A → C) (g : B → C) (xs : List A) (ys : List B) → length xs ≡ length ys
    → ((i : ℕ) (x : A) (y : B) → slice_get xs i ≡ Some x → slice_get ys i ≡ Some y → f x ≡ g y) → map f xs ≡ map g ys
map_each f g [] [] len each = refl
map_each f g [] (y ∷ ys) len each = absurd (omega arith)
map_each f g (x ∷ xs) [] len each = absurd (omega arith)
map_each f g (x ∷ xs) (y ∷ ys) len each =
    λ k. each 0 x y refl refl k ∷ map_each f g xs ys (omega arith) (λ i a b ea eb. each (suc i) a b ea eb) k

-- a list that is the front of another, without its last element
pub front_less :
    {A : Type 0} (l m : List A) (x : A) (k : ℕ) → l ++ x ∷ [] ≡ take k m
    → (l ≡ take (length l) m) × (slice_get m (length l) ≡ Some x)
front_less [] [] x zero e = absurd (cc e)
front_less [] [] x (suc k) e = absurd (cc e)
front_less [] (z ∷ zs) x zero e = absurd (cc e)
front_less [] (z ∷ zs) x (suc k) e = let is : x ≡ z = cc e in (refl, ap Some (sym is))
front_less (y ∷ l) [] x zero e = absurd (cc e)
front_less (y ∷ l) [] x (suc k) e = absurd (cc e)
front_less (y ∷ l) (z ∷ zs) x zero e = absurd (cc e)
front_less (y ∷ l) (z ∷ zs) x (suc k) e =
    let head : y ≡ z = cc e in
    let tail : l ++ x ∷ [] ≡ take k zs = cc e in
    let ih = front_less l zs x k tail in
    ((λ i. head i ∷ ih.0 i), ih.1)

pub map-push : {A B : Type 0} (f : A → B) (xs : List A) (x : A) → map f (xs ++ x ∷ []) ≡ map f xs ++ f x ∷ []
map-push f [] x = refl
map-push f (y ∷ ys) x = ap (λ l. f y ∷ l) (map-push f ys x)
