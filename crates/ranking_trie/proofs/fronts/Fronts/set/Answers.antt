use Rattle.std.proofs.Common.{◌≢◌, ℕ, ◌+◌, ◌-◌, ◌*◌, ◌<◌, ◌≤◌, ◌⊎◌, inl, inr, arith, ap, ◌∙◌}
use Rattle.std.proofs.lemmas.Bool.{cases_order}
use Rattle.std.proofs.lemmas.List.{get_or-set_other}
use Rattle.std.proofs.lemmas.Nat.{mul-le}
use Rattle.ranking_trie.proofs.fronts.Fronts.set.Goals as goal

-- a lower row ends before a higher one begins
row_below : (n a b c d : ℕ) → b < n → a < c → a * n + b < c * n + d
row_below n a b c d inside lower =
    let rows : (a + 1) * n ≤ c * n = mul-le (a + 1) n c n (omega arith) (omega arith) in
    omega (arith, rows)

-- two pairs are at two places
pairs_apart :
    (n a b c d : ℕ) → b < n → d < n → (a ≢ c) ⊎ (b ≢ d) → a * n + b ≢ c * n + d
pairs_apart n a b c d inside_b inside_d other = λ same.
    elim (cases_order a c) [
      | inl row ↦
          elim other [
            | inl ne ↦ ne row
            | inr ne ↦ ne (omega (arith, same, ap (λ (r : ℕ). r * n) row))
          ]
      | inr (inl less) ↦ omega (arith, same, row_below n a b c d inside_b less)
      | inr (inr more) ↦ omega (arith, same, row_below n c d a b inside_d more)
    ]

pub returns-then-at-len-clause-others : goal.returns-then-at-len-clause-others
returns-then-at-len-clause-others c = λ a b some_a few_a some_b few_b other.
    let n = c.args.self.now.candidates in
    let off : (a - 1 ≢ c.args.c - 1) ⊎ (b - 1 ≢ c.args.d - 1) =
    elim other [
      | inl ne ↦ inl (λ same. ne (omega (arith, same, some_a, c.requires.upper.0)))
      | inr ne ↦ inr (λ same. ne (omega (arith, same, some_b, c.requires.lower.0)))
    ] in
    get_or-set_other c.args.self.now.places.items c.index-at.result ((a - 1) * n + (b - 1)) c.args.place 0
    (λ same. pairs_apart n (a - 1) (b - 1) (c.args.c - 1) (c.args.d - 1) (omega (arith, some_b, few_b))
    (omega (arith, c.requires.lower.0, c.requires.lower.1)) off (same ∙ c.index-at.ensures))
