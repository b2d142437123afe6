-- Lists item by item: the first that passes, the greatest value, and the texts of all.
use Rattle.std.proofs.Common.{◌≡◌, ◌∙◌, ℕ, ◌+◌, ◌<◌, ◌≤◌, zero, suc, Bool, true, false, cond, List, []}
use Rattle.std.proofs.Common.{◌∷◌, ◌++◌, length, take, get_or, All, arith, inl, inr, refl, ap, sym, subst}
use Rattle.std.proofs.Common.{append-nil, append_assoc}
use Rattle.std.specs.Prelude.{max, find, Option, Some, None}
use Rattle.std.specs.List.{flat_map}
use Rattle.std.specs.Option.{option_or}
use Rattle.std.proofs.lemmas.Bool.{cases_Bool}
use Rattle.std.proofs.lemmas.List.{take_more}
use Rattle.std.proofs.lemmas.List.Concat.{flat_map-append}
use Rattle.std.proofs.lemmas.List.Folds.{find-append}
use Rattle.std.proofs.lemmas.List.Recursion.{max_push}
use Rattle.count_promise.specs.Left.{greatest_by}

module _ {X : Type 0} where
  some_none : (x : X) → Some x ≡ None → ⊥
  some_none x off = cc

  -- the first that passes is after others that don't
  pub find_here :
      (test : X → Bool) (xs : List X) (i : ℕ) (x : X) → i < length xs → find test (take i xs) ≡ None
      → x ≡ get_or xs i x → test x ≡ true → find test xs ≡ Some x
  find_here test [] i x below none is passes = absurd (omega arith)
  find_here test (y ∷ ys) zero x below none is passes =
      subst (λ (z : X). cond (test z) (Some z) (find test ys) ≡ Some x) is
      (ap (λ (b : Bool). cond b (Some x) (find test ys)) passes)
  find_here test (y ∷ ys) (suc i) x below none is passes =
      elim (cases_Bool (test y)) [
        | inl first ↦ absurd (some_none y (sym (ap (λ (b : Bool). cond b (Some y) (find test (take i ys))) first) ∙ none))
        | inr past ↦
            ap (λ (b : Bool). cond b (Some y) (find test ys)) past
            ∙ find_here test ys i x (omega arith)
            (sym (ap (λ (b : Bool). cond b (Some y) (find test (take i ys))) past) ∙ none) is passes
      ]

  -- one more that fails
  pub find_more :
      (test : X → Bool) (xs : List X) (i : ℕ) (x : X) → i < length xs → find test (take i xs) ≡ None
      → x ≡ get_or xs i x → test x ≡ false
      → find test (take (i + 1) xs) ≡ None
  find_more test xs i x below none is fails =
      ap (find test) (take_more xs i x below)
      ∙ (find-append test (take i xs) (get_or xs i x ∷ [])
      ∙ subst (λ (o : Option X). option_or o (find test (get_or xs i x ∷ [])) ≡ None) (sym none)
      (ap (λ (b : Bool). cond b (Some (get_or xs i x)) None) (ap test (sym is) ∙ fails)))

  -- one more value
  pub greatest_more :
      (f : X → ℕ) (xs : List X) (i : ℕ) (x : X) → x ≡ get_or xs i x → i < length xs
      → greatest_by f (take (i + 1) xs) ≡ max (greatest_by f (take i xs)) (f x)
  greatest_more f xs i x is below =
      ap (greatest_by f) (take_more xs i x below)
      ∙ max_push (greatest_by f) f refl (λ y ys. refl) (take i xs) (get_or xs i x)
      ∙ ap (λ (y : X). max (greatest_by f (take i xs)) (f y)) (sym is)

  -- no value is greater
  pub greatest_all : (f : X → ℕ) (xs : List X) → All (λ x. f x ≤ greatest_by f xs) xs
  greatest_all f [] k d below = absurd (omega arith)
  greatest_all f (x ∷ xs) zero d below = omega arith
  greatest_all f (x ∷ xs) (suc k) d below =
      let rest : f (get_or xs k d) ≤ greatest_by f xs = greatest_all f xs k d (omega arith) in
      omega arith

  -- one more text
  pub texts_more :
      (g : X → List ℕ) (xs : List X) (i : ℕ) (x : X) → x ≡ get_or xs i x → i < length xs
      → flat_map g (take (i + 1) xs) ≡ flat_map g (take i xs) ++ g x
  texts_more g xs i x is below =
      ap (flat_map g) (take_more xs i x below)
      ∙ flat_map-append g (take i xs) (get_or xs i x ∷ [])
      ∙ ap (λ (l : List ℕ). flat_map g (take i xs) ++ l) (append-nil (g (get_or xs i x)))
      ∙ ap (λ (y : X). flat_map g (take i xs) ++ g y) (sym is)

  -- a text with one more of these after it
  pub texts_step :
      (g : X → List ℕ) (xs : List X) (i : ℕ) (x : X) (old text new : List ℕ)
      → text ≡ old ++ flat_map g (take i xs) → x ≡ get_or xs i x → i < length xs
      → new ≡ text ++ g x → new ≡ old ++ flat_map g (take (i + 1) xs)
  texts_step g xs i x old text new before is below more =
      more ∙ (ap (λ (l : List ℕ). l ++ g x) before
      ∙ (append_assoc old (flat_map g (take i xs)) (g x)
      ∙ ap (λ (l : List ℕ). old ++ l) (sym (texts_more g xs i x is below))))
