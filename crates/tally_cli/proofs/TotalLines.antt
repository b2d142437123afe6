-- Lines of totals, one more at a time.
use Rattle.std.proofs.Common.{◌≡◌, ℕ, zero, suc, ◌+◌, ◌<◌, ◌≤◌, List, [], ◌∷◌, ◌++◌, refl, ap, ◌∙◌, arith, append-nil}
use Rattle.std.specs.List.{flat_map, range_with_len}
use Rattle.std.proofs.lemmas.Grind.{flat_map-append}
use Rattle.tally_cli.specs.Owed.{total_line, total_lines}

range_more : (a n : ℕ) → range_with_len a (suc n) ≡ range_with_len a n ++ (a + n) ∷ []
range_more a zero = ap (λ (q : ℕ). q ∷ []) (let e : a ≡ a + 0 = omega arith in e)
range_more a (suc n) =
    let next : a + 1 + n ≡ a + suc n = omega arith in
    ap (λ (l : List ℕ). a ∷ l) (range_more (a + 1) n ∙ ap (λ (q : ℕ). range_with_len (a + 1) n ++ q ∷ []) next)

pub lines_more : (n : ℕ) (f : ℕ → ℕ) → total_lines (n + 1) f ≡ total_lines n f ++ total_line (n + 1) (f (n + 1))
lines_more n f =
    let next : n + 1 ≡ suc n = omega arith in
    let number : 1 + n ≡ n + 1 = omega arith in
    let line : ℕ → List ℕ = λ c. total_line c (f c) in
    ap (λ (k : ℕ). total_lines k f) next
    ∙ (ap (flat_map line) (range_more 1 n)
    ∙ (flat_map-append line (range_with_len 1 n) ((1 + n) ∷ [])
    ∙ (ap (λ (l : List ℕ). total_lines n f ++ l) (append-nil (line (1 + n)))
    ∙ ap (λ (c : ℕ). total_lines n f ++ total_line c (f c)) number)))

same_from : (f g : ℕ → ℕ) (a n : ℕ) → ((c : ℕ) → a ≤ c → c < a + n → f c ≡ g c)
    → flat_map (λ c. total_line c (f c)) (range_with_len a n) ≡ flat_map (λ c. total_line c (g c)) (range_with_len a n)
same_from f g a zero same = refl
same_from f g a (suc n) same = λ i.
    total_line a (same a (omega arith) (omega arith) i)
    ++ same_from f g (a + 1) n (λ c from below. same c (omega (arith, from)) (omega (arith, below))) i

-- the same totals have the same lines
pub lines_same : (n : ℕ) (f g : ℕ → ℕ) → ((c : ℕ) → 1 ≤ c → c ≤ n → f c ≡ g c) → total_lines n f ≡ total_lines n g
lines_same n f g same = same_from f g 1 n (λ c from below. same c from (omega (arith, below)))
