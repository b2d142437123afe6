-- Lines of one kind, one after another: the first hundred of them, and how many more.
use Rattle.std.proofs.Common.{◌≡◌, ◌∙◌, ℕ, zero, suc, ◌+◌, ◌-◌, Bool, true, false, cond, List, [], ◌∷◌, ◌++◌}
use Rattle.std.proofs.Common.{ap, append_assoc, append-nil, arith, refl, sym, inl, inr, length, take}
use Rattle.std.specs.Prelude.{codes, if◌then◌else◌, nat_lt}
use Rattle.std.specs.List.{filter, flat_map, range_with_len}
use Rattle.std.proofs.lemmas.Bool.{cases_lt, le-ltb, lt-ltb}
use Rattle.std.proofs.lemmas.Grind.{flat_map-append}
use Rattle.std.proofs.lemmas.List.Elements.{filter-append}
use Rattle.std.proofs.lemmas.List.Folds.{fold-map}
use Rattle.std.proofs.lemmas.List.Sums.{fold-append}
use Rattle.ballot_findings.specs.Counted.{Counted, counted, with_line, with_line_if, with_lines}
use Rattle.ballot_findings.specs.Lines.{count_line, later_pairs, only_if, told}
use Rattle.ballot_findings.proofs.Each.{range_more}

module _ {X : Type 0} (line : X → List ℕ) where
  -- one that has a line or hasn't, and others after it
  pub one_if :
      (test : Bool) (lines : Counted) (x : X) (xs : List X)
      → with_lines line lines (if test then x ∷ xs else xs) ≡ with_lines line (with_line_if test lines (line x)) xs
  one_if true lines x xs = refl
  one_if false lines x xs = refl

  abbrev one : (test : Bool) → X → List X
  one test x = cond test (x ∷ []) []

  pub last_if :
      (test : Bool) (lines : Counted) (x : X)
      → with_lines line lines (one test x) ≡ with_line_if test lines (line x)
  last_if true lines x = refl
  last_if false lines x = refl

  -- how many there are, and which are written
  pub all_counted : (lines : Counted) (xs : List X) → (with_lines line lines xs).count ≡ lines.count + length xs
  all_counted lines [] = let e : lines.count ≡ lines.count + 0 = omega arith in e
  all_counted lines (x ∷ xs) =
      let rest = all_counted (with_line lines (line x)) xs in
      omega (arith, rest)

  pub first_written :
      (lines : Counted) (xs : List X)
      → (with_lines line lines xs).text ≡ lines.text ++ flat_map line (take (100 - lines.count) xs)
  first_written lines [] = sym (append-nil lines.text) ∙ ap (λ (l : List X). lines.text ++ flat_map line l) (none (100 - lines.count))
    where
      none : (n : ℕ) → [] ≡ take {A = X} n []
      none zero = refl
      none (suc n) = refl
  first_written lines (x ∷ xs) =
      let rest = first_written (with_line lines (line x)) xs in
      let k = lines.count in
      elim (cases_lt k 100) [
        | inl few ↦
            let more : suc (100 - (k + 1)) ≡ 100 - k = omega (arith, few) in
            rest
            ∙ (ap (λ (b : Bool). (lines.text ++ only_if b (line x)) ++ flat_map line (take (100 - (k + 1)) xs)) (lt-ltb k 100 few)
            ∙ (append_assoc lines.text (line x) (flat_map line (take (100 - (k + 1)) xs))
            ∙ ap (λ (n : ℕ). lines.text ++ flat_map line (take n (x ∷ xs))) more))
        | inr many ↦
            let left : 100 - (k + 1) ≡ 0 = omega (arith, many) in
            let none : 0 ≡ 100 - k = omega (arith, many) in
            rest
            ∙ (ap (λ (b : Bool). (lines.text ++ only_if b (line x)) ++ flat_map line (take (100 - (k + 1)) xs)) (le-ltb k 100 many)
            ∙ (ap (λ (n : ℕ). (lines.text ++ []) ++ flat_map line (take n xs)) left
            ∙ (ap (λ (l : List ℕ). l ++ []) (append-nil lines.text)
            ∙ ap (λ (n : ℕ). lines.text ++ flat_map line (take n (x ∷ xs))) none)))
      ]

  -- with the line of how many more there are it is all that is told
  pub all_told :
      (old text : List ℕ) (count : ℕ) (xs : List X) → counted text count ≡ with_lines line (counted old 0) xs
      → text ++ only_if (nat_lt 100 count) (count_line (codes "look more lines of this kind ") (count - 100))
      ≡ old ++ told line xs
  unfolding told
  all_told old text count xs is =
      let all = ap (λ (ls : Counted). ls.count) is ∙ all_counted (counted old 0) xs in
      let many : count ≡ length xs = omega (arith, all) in
      let written = ap (λ (ls : Counted). ls.text) is ∙ first_written (counted old 0) xs in
      let more : ℕ → List ℕ = λ n. only_if (nat_lt 100 n) (count_line (codes "look more lines of this kind ") (n - 100)) in
      (λ i. written i ++ more (many i)) ∙ append_assoc old (flat_map line (take 100 xs)) (more (length xs))

-- one number more of those that pass a test
pub kept_more :
    (line : ℕ → List ℕ) (test : ℕ → Bool) (lines : Counted) (a n c : ℕ) → c ≡ a + n
    → with_lines line lines (filter test (range_with_len a (n + 1)))
    ≡ with_line_if (test c) (with_lines line lines (filter test (range_with_len a n))) (line c)
kept_more line test lines a n c is =
    ap (λ (l : List ℕ). with_lines line lines (filter test l)) (range_more a n)
    ∙ (ap (with_lines line lines) (filter-append test (range_with_len a n) ((a + n) ∷ []))
    ∙ (fold-append (λ ls x. with_line ls (line x)) lines (filter test (range_with_len a n)) (filter test ((a + n) ∷ []))
    ∙ (last_if line (test (a + n)) (with_lines line lines (filter test (range_with_len a n))) (a + n)
    ∙ ap (λ (k : ℕ). with_line_if (test k) (with_lines line lines (filter test (range_with_len a n))) (line k)) (sym is))))

-- one candidate more with all of a greater number
pub pairs_more :
    (line : ℕ → ℕ → List ℕ) (test : ℕ → ℕ → Bool) (lines : Counted) (candidates n c : ℕ) → c ≡ 1 + n
    → with_lines (λ (two : ℕ × ℕ). line two.0 two.1) lines (flat_map (later_pairs candidates test) (range_with_len 1 (n + 1)))
    ≡ with_lines (line c)
    (with_lines (λ (two : ℕ × ℕ). line two.0 two.1) lines (flat_map (later_pairs candidates test) (range_with_len 1 n)))
    (filter (test c) (range_with_len (c + 1) (candidates - c)))
pairs_more line test lines candidates n c is =
    let of_two : ℕ × ℕ → List ℕ = λ two. line two.0 two.1 in
    let later = later_pairs candidates test in
    let before = with_lines of_two lines (flat_map later (range_with_len 1 n)) in
    ap (λ (l : List ℕ). with_lines of_two lines (flat_map later l)) (range_more 1 n)
    ∙ (ap (with_lines of_two lines)
    (flat_map-append later (range_with_len 1 n) ((1 + n) ∷ [])
    ∙ ap (λ (l : List (ℕ × ℕ)). flat_map later (range_with_len 1 n) ++ l) (append-nil (later (1 + n))))
    ∙ (fold-append (λ ls x. with_line ls (of_two x)) lines (flat_map later (range_with_len 1 n)) (later (1 + n))
    ∙ (ap (λ (k : ℕ). with_lines of_two before (later k)) (sym is)
    ∙ fold-map (λ ls x. with_line ls (of_two x)) (λ d. (c, d)) before
    (filter (test c) (range_with_len (c + 1) (candidates - c))))))
