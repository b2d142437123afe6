-- What holds at some place, and lists by places.
use Rattle.std.proofs.Common.{◌≡◌, ◌∙◌, ℕ, ◌+◌, ◌<◌, Bool, true, false, cond, List, []}
use Rattle.std.proofs.Common.{◌∷◌, ◌++◌, length, arith, refl, ap, sym, inl, inr, append_assoc, append-nil}
use Rattle.std.specs.Prelude.{decimal}
use Rattle.std.specs.List.{range_with_len, list_any}
use Rattle.std.proofs.lemmas.Bool.{cases_eq}
use Rattle.std.proofs.lemmas.List.FromFn.{get_or-range_with_len, length-range_with_len}
use Rattle.std.proofs.lemmas.List.FromFn.{length-map-range_with_len, map-range_with_len_more}
use Rattle.std.proofs.lemmas.List.Folds.{list_any_at, list_any_none}
use Rattle.meek_rule.specs.Places.{each_place}
use Rattle.sheet_text.specs.Lines.{listed}

-- a place that passes is one of all
pub any_here : (test : ℕ → Bool) (n p : ℕ) → p < n → test p ≡ true → list_any test (range_with_len 0 n) ≡ true
any_here test n p below is =
    list_any_at test (range_with_len 0 n) p 0 (rw length-range_with_len below)
    (ap test (get_or-range_with_len 0 n p 0 below ∙ omega arith) ∙ is)

-- where no place passes none of all does
pub any_nowhere : (test : ℕ → Bool) (n : ℕ) → ((p : ℕ) → p < n → test p ≡ false) → list_any test (range_with_len 0 n) ≡ false
any_nowhere test n none =
    list_any_none test (range_with_len 0 n)
    (λ k d below.
    let inside : k < n = omega (arith, length-range_with_len 0 n) in
    ap test (get_or-range_with_len 0 n k d inside ∙ omega arith) ∙ none k inside)

-- and the other way round
pub nowhere_here : (test : ℕ → Bool) (n p : ℕ) → list_any test (range_with_len 0 n) ≡ false → p < n → test p ≡ false
nowhere_here test n p none below =
    by (test p) refl
  where
    by : (b : Bool) → b ≡ test p → test p ≡ false
    by true is = absurd (let off = sym (any_here test n p below (sym is)) ∙ none in cc)
    by false is = sym is

-- one place more that fails
pub none_more :
    (test : ℕ → Bool) (n : ℕ) → ((q : ℕ) → q < n → test q ≡ false) → test n ≡ false → (q : ℕ) → q < n + 1
    → test q ≡ false
none_more test n before here q below =
    elim (cases_eq q n) [
      | inl same ↦ ap test same ∙ here
      | inr other ↦ before q (omega arith)
    ]

-- one mark more in a list of numbers
listed_more :
    (c : ℕ) (marks : List Bool) (mark : Bool)
    → listed c (marks ++ mark ∷ []) ≡ listed c marks ++ cond mark (32 ∷ decimal (c + length marks)) []
listed_more c [] true = append-nil (32 ∷ decimal c) ∙ ap (λ (k : ℕ). 32 ∷ decimal k) (omega arith)
listed_more c [] false = refl
listed_more c (true ∷ marks) mark =
    ap (λ (l : List ℕ). (32 ∷ decimal c) ++ l) (listed_more (c + 1) marks mark)
    ∙ (sym (append_assoc (32 ∷ decimal c) (listed (c + 1) marks) (cond mark (32 ∷ decimal (c + 1 + length marks)) []))
    ∙ ap (λ (k : ℕ). (32 ∷ decimal c) ++ listed (c + 1) marks ++ cond mark (32 ∷ decimal k) []) (omega arith))
listed_more c (false ∷ marks) mark =
    listed_more (c + 1) marks mark ∙ ap (λ (k : ℕ). listed (c + 1) marks ++ cond mark (32 ∷ decimal k) []) (omega arith)

-- one place more in a list of numbers
pub group_more :
    (test : ℕ → Bool) (p : ℕ)
    → listed 1 (each_place (p + 1) test)
    ≡ listed 1 (each_place p test) ++ cond (test p) (32 ∷ decimal (p + 1)) []
group_more test p =
    ap (listed 1) (map-range_with_len_more test 0 p p (omega arith))
    ∙ (listed_more 1 (each_place p test) (test p)
    ∙ ap (λ (k : ℕ). listed 1 (each_place p test) ++ cond (test p) (32 ∷ decimal k) [])
    (omega (arith, length-map-range_with_len test 0 p)))

-- a text with one place more of the list after it
pub group_step :
    (test : ℕ → Bool) (p : ℕ) (old text new : List ℕ) → text ≡ old ++ listed 1 (each_place p test)
    → test p ≡ true → new ≡ text ++ 32 ∷ decimal (p + 1)
    → new ≡ old ++ listed 1 (each_place (p + 1) test)
group_step test p old text new before is more =
    more ∙ (ap (λ (l : List ℕ). l ++ 32 ∷ decimal (p + 1)) before
    ∙ (append_assoc old (listed 1 (each_place p test)) (32 ∷ decimal (p + 1))
    ∙ ap (λ (l : List ℕ). old ++ l)
    (ap (λ (b : Bool). listed 1 (each_place p test) ++ cond b (32 ∷ decimal (p + 1)) []) (sym is)
    ∙ sym (group_more test p))))

pub group_skip :
    (test : ℕ → Bool) (p : ℕ) (old text new : List ℕ) → text ≡ old ++ listed 1 (each_place p test)
    → test p ≡ false → new ≡ text
    → new ≡ old ++ listed 1 (each_place (p + 1) test)
group_skip test p old text new before fails same =
    same ∙ (before ∙ ap (λ (l : List ℕ). old ++ l)
    (sym (append-nil (listed 1 (each_place p test)))
    ∙ (ap (λ (b : Bool). listed 1 (each_place p test) ++ cond b (32 ∷ decimal (p + 1)) []) (sym fails)
    ∙ sym (group_more test p))))
