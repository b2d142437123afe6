-- Words that are the two options.
use Rattle.std.proofs.Common.{◌≡◌, ◌∙◌, sym, ap, subst, ℕ, List, [], ◌∷◌, length, get_or, arith, inl, inr}
use Rattle.std.specs.Prelude.{codes, Result, Ok, Err, IfOk}
use Rattle.std.specs.Borrow.{Bor}
use Rattle.meek_words.specs.Numerals.{Word}
use Rattle.lot_draw.specs.Words.{Asked, AreOptions, Says, TakesDraw}

-- a list of four elements
pub four_items :
    {X : Type 0} (xs : List X) (a b c d : X) → length xs ≡ 4 → a ≡ get_or xs 0 a → b ≡ get_or xs 1 b
    → c ≡ get_or xs 2 c → d ≡ get_or xs 3 d → xs ≡ a ∷ b ∷ c ∷ d ∷ []
four_items [] a b c d four p q r s = absurd (omega arith)
four_items (v ∷ []) a b c d four p q r s = absurd (omega arith)
four_items (v ∷ w ∷ []) a b c d four p q r s = absurd (omega arith)
four_items (v ∷ w ∷ x ∷ []) a b c d four p q r s = absurd (omega arith)
four_items (v ∷ w ∷ x ∷ y ∷ []) a b c d four p q r s = cc
four_items (v ∷ w ∷ x ∷ y ∷ z ∷ xs) a b c d four p q r s = absurd (omega arith)

-- the options with what was read of their values
pub taken :
    {E : Type 0} (words : List Word) (seed number : Word) (r : Result (Bor Word × ℕ) E)
    → AreOptions words seed number → IfOk r (λ a. a.0.now ≡ seed) → IfOk r (λ a. Says seed number a.1)
    → IfOk r (λ a. TakesDraw words (record { seed = a.0.now; candidates = a.1 }))
taken words seed number (Ok a) options same says = record {
  number = number;
  options = subst (λ (s : Word). AreOptions words s number) (sym same) options;
  says = subst (λ (s : Word). Says s number a.1) (sym same) says;
}
taken words seed number (Err stop) options same says = tt

-- the options say their values alone
pub refused :
    (words : List Word) (seed number : Word) → AreOptions words seed number
    → ((n : ℕ) → ¬ (Says seed number n)) → (asked : Asked) → ¬ (TakesDraw words asked)
refused words seed number (inl one) none asked takes =
    elim takes.options [
      | inl other ↦
          let same = sym one ∙ other in
          let seeds : asked.seed ≡ seed = sym (ap (λ (ws : List Word). get_or ws 1 []) same) in
          let numbers : takes.number ≡ number = sym (ap (λ (ws : List Word). get_or ws 3 []) same) in
          none asked.candidates (subst (λ (s : Word). Says s number asked.candidates) seeds
          (subst (λ (n : Word). Says asked.seed n asked.candidates) numbers takes.says))
      | inr other ↦ omega (arith, ap (λ (ws : List Word). get_or (get_or ws 0 []) 2 0) (sym one ∙ other))
    ]
refused words seed number (inr one) none asked takes =
    elim takes.options [
      | inl other ↦ omega (arith, ap (λ (ws : List Word). get_or (get_or ws 0 []) 2 0) (sym one ∙ other))
      | inr other ↦
          let same = sym one ∙ other in
          let seeds : asked.seed ≡ seed = sym (ap (λ (ws : List Word). get_or ws 3 []) same) in
          let numbers : takes.number ≡ number = sym (ap (λ (ws : List Word). get_or ws 1 []) same) in
          none asked.candidates (subst (λ (s : Word). Says s number asked.candidates) seeds
          (subst (λ (n : Word). Says asked.seed n asked.candidates) numbers takes.says))
    ]

-- other words in the places of the options
pub neither :
    (first value second other : Word) → ¬ ((first ≡ codes "--seed") × (second ≡ codes "--candidates"))
    → ¬ ((first ≡ codes "--candidates") × (second ≡ codes "--seed")) → (asked : Asked)
    → ¬ (TakesDraw (first ∷ value ∷ second ∷ other ∷ []) asked)
neither first value second other not_one not_other asked takes =
    elim takes.options [
      | inl same ↦ not_one (ap (λ (ws : List Word). get_or ws 0 []) same, ap (λ (ws : List Word). get_or ws 2 []) same)
      | inr same ↦ not_other (ap (λ (ws : List Word). get_or ws 0 []) same, ap (λ (ws : List Word). get_or ws 2 []) same)
    ]

pub four_alike :
    (a b c d a' b' c' d' : Word) → a ≡ a' → b ≡ b' → c ≡ c' → d ≡ d'
    → a ∷ b ∷ c ∷ d ∷ [] ≡ a' ∷ b' ∷ c' ∷ d' ∷ []
four_alike a b c d a' b' c' d' p q r s =
    ap (λ (w : Word). w ∷ b ∷ c ∷ d ∷ []) p ∙ ap (λ (w : Word). a' ∷ w ∷ c ∷ d ∷ []) q
    ∙ ap (λ (w : Word). a' ∷ b' ∷ w ∷ d ∷ []) r ∙ ap (λ (w : Word). a' ∷ b' ∷ c' ∷ w ∷ []) s

-- an error is one error, whatever a success would give
pub stop_is : {A E : Type 0} (e f : E) (r : Result A E) → r ≡ Err e → r ≡ Err f → e ≡ f
stop_is e f r one other = cc
