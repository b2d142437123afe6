-- Lines with one for each candidate, written one after another.
use Rattle.std.proofs.Common.{◌≡◌, ℕ, ◌+◌, ◌-◌, ◌<◌, List, [], ◌∷◌, ◌++◌, Option, Result, IsErr, arith, sym}
use Rattle.std.proofs.Common.{ap, subst, ◌∙◌, append_assoc, append-nil, zero, suc, add-zero}
use Rattle.std.proofs.lemmas.List.FromFn.{map-range_with_len_more}
use Rattle.meek_rule.specs.Places.{each_place}
use Rattle.sheet_text.specs.Writing.{Wrote, Stopped, Writes}
use Rattle.sheet_text.proofs.WritingLemmas.{wrote_later, stopped_later, stops}

pub each_place-more : {X : Type 0} (f : ℕ → X) (n : ℕ) → each_place (n + 1) f ≡ each_place n f ++ f n ∷ []
each_place-more f n = map-range_with_len_more f 0 n n (omega arith)

-- the first places stand in front
pub each_place-front : {X : Type 0} (f : ℕ → X) (n k : ℕ) → (rest : List X) × (each_place (n + k) f ≡ each_place n f ++ rest)
each_place-front f n zero = ([], rw add-zero (sym (append-nil (each_place n f))))
each_place-front {X = X} f n (suc k) =
    let before = each_place-front f n k in
    let more : each_place (n + k + 1) f ≡ each_place n f ++ (before.0 ++ f (n + k) ∷ []) =
    each_place-more f (n + k) ∙ ap (λ (xs : List X). xs ++ f (n + k) ∷ []) before.1
    ∙ append_assoc (each_place n f) before.0 (f (n + k) ∷ []) in
    (before.0 ++ f (n + k) ∷ [], ap (λ (m : ℕ). each_place m f) (omega arith) ∙ more)

-- one more place
pub wrote_more :
    {S : Type 0} {w : S → Option (List ℕ)} {f : S → ℕ} {a b c : S} (line_at : ℕ → List ℕ) (n : ℕ)
    (line : List ℕ) → line ≡ line_at n → Wrote w f a b (each_place n line_at) → Wrote w f b c (line ∷ [])
    → Wrote w f a c (each_place (n + 1) line_at)
wrote_more {w} {f} {a} {b} {c} line_at n line is done next =
    rw each_place-more (wrote_later done (subst (λ (l : List ℕ). Wrote w f b c (l ∷ [])) is next))

-- a failure at a place
pub stopped_at :
    {S T E : Type 0} {w : S → Option (List ℕ)} {f : S → ℕ} {a b c : S} (line_at : ℕ → List ℕ) (n total : ℕ)
    (line : List ℕ) (r : Result T E) → IsErr r → n < total → line ≡ line_at n
    → Wrote w f a b (each_place n line_at) → Stopped w f b c (line ∷ [])
    → Writes w f a c (each_place total line_at) r
stopped_at {w} {f} {a} {b} {c} line_at n total line r failed below is done next =
    let here : Stopped w f a c (each_place n line_at ++ line_at n ∷ []) =
    stopped_later done (subst (λ (l : List ℕ). Stopped w f b c (l ∷ [])) is next) in
    let front = each_place-front line_at (n + 1) (total - (n + 1)) in
    let whole : each_place total line_at ≡ (each_place n line_at ++ line_at n ∷ []) ++ front.0 =
    ap (λ (m : ℕ). each_place m line_at) (omega arith) ∙ front.1
    ∙ ap (λ (xs : List (List ℕ)). xs ++ front.0) (each_place-more line_at n) in
    rw whole (stops front.0 r failed here)
