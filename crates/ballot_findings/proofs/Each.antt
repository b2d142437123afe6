-- Texts for each of a run of numbers, one number more at a time.
use Rattle.std.proofs.Common.{◌≡◌, ◌∙◌, ℕ, zero, suc, ◌+◌, ◌<◌, ◌≤◌, Bool, cond, List, [], ◌∷◌, ◌++◌, ap, arith, refl}
use Rattle.std.proofs.Common.{append-nil, append_assoc, sym}
use Rattle.std.specs.List.{filter, flat_map, range_with_len, count_by}
use Rattle.std.proofs.lemmas.List.Concat.{flat_map-append}
use Rattle.std.proofs.lemmas.List.Sums.{sum_by_push}

pub range_more : (a n : ℕ) → range_with_len a (n + 1) ≡ range_with_len a n ++ (a + n) ∷ []
range_more a n = ap (λ (k : ℕ). range_with_len a k) (let e : n + 1 ≡ suc n = omega arith in e) ∙ go a n
  where
    go : (a n : ℕ) → range_with_len a (suc n) ≡ range_with_len a n ++ (a + n) ∷ []
    go a zero = ap (λ (q : ℕ). q ∷ []) (let e : a ≡ a + 0 = omega arith in e)
    go a (suc n) =
        let next : a + 1 + n ≡ a + suc n = omega arith in
        ap (λ (l : List ℕ). a ∷ l) (go (a + 1) n ∙ ap (λ (q : ℕ). range_with_len (a + 1) n ++ q ∷ []) next)

-- one number more
pub each_more :
    (f : ℕ → List ℕ) (a n c : ℕ) → c ≡ a + n
    → flat_map f (range_with_len a (n + 1)) ≡ flat_map f (range_with_len a n) ++ f c
each_more f a n c is =
    ap (flat_map f) (range_more a n)
    ∙ (flat_map-append f (range_with_len a n) ((a + n) ∷ [])
    ∙ (ap (λ (l : List ℕ). flat_map f (range_with_len a n) ++ l) (append-nil (f (a + n)))
    ∙ ap (λ (k : ℕ). flat_map f (range_with_len a n) ++ f k) (sym is)))

-- a text with one number more after it
pub each_step :
    (f : ℕ → List ℕ) (a n c : ℕ) (old text new : List ℕ) → c ≡ a + n → text ≡ old ++ flat_map f (range_with_len a n)
    → new ≡ text ++ f c
    → new ≡ old ++ flat_map f (range_with_len a (n + 1))
each_step f a n c old text new is before more =
    more ∙ (ap (λ (l : List ℕ). l ++ f c) before
    ∙ (append_assoc old (flat_map f (range_with_len a n)) (f c)
    ∙ ap (λ (l : List ℕ). old ++ l) (sym (each_more f a n c is))))

-- the same texts, one by one
pub each_same :
    (f g : ℕ → List ℕ) (a n : ℕ) → ((c : ℕ) → a ≤ c → c < a + n → f c ≡ g c)
    → flat_map f (range_with_len a n) ≡ flat_map g (range_with_len a n)
each_same f g a zero same = refl
each_same f g a (suc n) same = λ i.
    same a (omega arith) (omega arith) i
    ++ each_same f g (a + 1) n (λ c from below. same c (omega (arith, from)) (omega (arith, below))) i

-- one number more that is counted, or isn't
pub count_more :
    (test : ℕ → Bool) (a n c : ℕ) → c ≡ a + n
    → count_by test (range_with_len a (n + 1)) ≡ count_by test (range_with_len a n) + cond (test c) 1 0
count_more test a n c is =
    ap (count_by test) (range_more a n)
    ∙ (sum_by_push (λ (x : ℕ). cond (test x) 1 0) (range_with_len a n) (a + n)
    ∙ ap (λ (k : ℕ). count_by test (range_with_len a n) + cond (test k) 1 0) (sym is))

-- the same numbers pass two tests that agree on them
pub kept_same :
    (f g : ℕ → Bool) (a n : ℕ) → ((c : ℕ) → a ≤ c → c < a + n → f c ≡ g c)
    → filter f (range_with_len a n) ≡ filter g (range_with_len a n)
kept_same f g a zero same = refl
kept_same f g a (suc n) same =
    let rest = kept_same f g (a + 1) n (λ c from below. same c (omega (arith, from)) (omega (arith, below))) in
    λ i. cond (same a (omega arith) (omega arith) i) (a ∷ rest i) (rest i)
