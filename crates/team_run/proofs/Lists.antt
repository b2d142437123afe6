-- Lists: what is next, all items of a list that is turned round, and pairs of items.
use Rattle.std.proofs.Common.{◌≡◌, ℕ, zero, suc, ◌<◌, List, [], ◌∷◌, ◌++◌, length, reverse, All, AllPairs}
use Rattle.std.proofs.Common.{refl, sym, ap, subst, ◌∙◌, append_assoc, arith}
use Rattle.std.specs.Prelude.{slice_get, slice_index_or, Some}
use Rattle.std.proofs.lemmas.List.{reverse-append}
use Rattle.std.proofs.lemmas.List.Elements.{All-nil, All-cons, All-append, All-head, All-tail}
use Rattle.std.proofs.lemmas.List.Kept.{AllPairs-cons}

-- the last of what is left, which is turned round, is the next
pub next_of :
    {X : Type 0} (before rest : List X) (x : X) (left : List X) → left ≡ rest ++ x ∷ []
    → before ++ reverse left ≡ (before ++ x ∷ []) ++ reverse rest
next_of {X = X} before rest x left is =
    ap (λ (l : List X). before ++ l) (ap reverse is ∙ reverse-append rest (x ∷ []))
    ∙ sym (append_assoc before (x ∷ []) (reverse rest))

pub All-reverse : {X : Type 0} (P : X → Type 0) (xs : List X) → All P xs → All P (reverse xs)
All-reverse P [] all = all
All-reverse P (x ∷ xs) all =
    subst (All P) (sym (reverse-append (x ∷ []) xs))
    (All-append P (reverse xs) (x ∷ []) (All-reverse P xs (All-tail P x xs all))
    (All-cons P x [] (All-head P x xs all) (All-nil P)))

pub All-split : {X : Type 0} (P : X → Type 0) (xs : List X) (x : X) → All P (xs ++ x ∷ []) → All P xs × P x
All-split P [] x all = (All-nil P, All-head P x [] all)
All-split P (y ∷ ys) x all =
    let rest = All-split P ys x (All-tail P y (ys ++ x ∷ []) all) in
    (All-cons P y ys (All-head P y (ys ++ x ∷ []) all) rest.0, rest.1)

pub all_got : {X : Type 0} (P : X → Type 0) (xs : List X) → ((k : ℕ) (x : X) → slice_get xs k ≡ Some x → P x) → All P xs
all_got P [] each = All-nil P
all_got P (x ∷ xs) each = All-cons P x xs (each 0 x refl) (all_got P xs (λ k y e. each (suc k) y e))

pub got : {X : Type 0} (xs : List X) (k : ℕ) (d : X) → k < length xs → slice_get xs k ≡ Some (slice_index_or xs k d)
got [] k d below = absurd (omega (arith, below))
got (x ∷ xs) zero d below = refl
got (x ∷ xs) (suc k) d below = got xs k d (omega (arith, below))

pub get_ahead : {X : Type 0} (xs ys : List X) (i : ℕ) (x : X) → slice_get xs i ≡ Some x → slice_get (xs ++ ys) i ≡ Some x
get_ahead [] ys i x e = absurd (cc)
get_ahead (z ∷ zs) ys zero x e = e
get_ahead (z ∷ zs) ys (suc i) x e = get_ahead zs ys i x e

pub get_last : {X : Type 0} (xs : List X) (x : X) → slice_get (xs ++ x ∷ []) (length xs) ≡ Some x
get_last [] x = refl
get_last (y ∷ ys) x = get_last ys x

module _ {X : Type 0} (R : X → X → Type 0) where
  pub no_pairs : AllPairs R []
  no_pairs i j d before inside = absurd (omega arith)

  pub pairs_head : (x : X) (xs : List X) → AllPairs R (x ∷ xs) → All (R x) xs
  pairs_head x xs all k d inside = all 0 (suc k) d (omega arith) (omega (arith, inside))

  pub pairs_tail : (x : X) (xs : List X) → AllPairs R (x ∷ xs) → AllPairs R xs
  pairs_tail x xs all i j d before inside = all (suc i) (suc j) d (omega (arith, before)) (omega (arith, inside))

  pub pairs_append : (xs ys : List X) → AllPairs R xs → AllPairs R ys → All (λ x. All (R x) ys) xs → AllPairs R (xs ++ ys)
  pairs_append [] ys one other across = other
  pairs_append (x ∷ xs) ys one other across =
      AllPairs-cons R x (xs ++ ys) (All-append (R x) xs ys (pairs_head x xs one) (All-head (λ x. All (R x) ys) x xs across))
      (pairs_append xs ys (pairs_tail x xs one) other (All-tail (λ x. All (R x) ys) x xs across))

  pub one_pair : (x : X) → AllPairs R (x ∷ [])
  one_pair x = AllPairs-cons R x [] (All-nil (R x)) no_pairs
