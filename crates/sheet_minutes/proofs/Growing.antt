-- A text that grows by a piece at each step, as a loop writes it.
use Rattle.std.proofs.Common.{◌≡◌, ◌∙◌, ap, sym, subst, arith, ℕ, zero, suc, ◌+◌, ◌-◌, ◌<◌, List, [], ◌++◌, append_assoc, append-nil}
use Rattle.std.proofs.Common.{Option, Result, IsErr}
use Rattle.piece_text.specs.Writing.{Wrote, Stopped, Writes}
use Rattle.piece_text.proofs.Written.{stopped_later, stops, wrote_later}

-- the same bytes by another name
pub renamed :
    {S T E : Type 0} (w : S → Option (List ℕ)) (f : S → ℕ) (a b : S) (xs ys : List ℕ) (r : Result T E) → xs ≡ ys
    → Writes w f a b xs r → Writes w f a b ys r
renamed w f a b xs ys r same done = subst (λ (l : List ℕ). Writes w f a b l r) same done

module _ (text piece : ℕ → List ℕ) (more : (n : ℕ) → text (n + 1) ≡ text n ++ piece n) where
  -- what is still to come
  rest : (n k : ℕ) → (others : List ℕ) × (text (n + k) ≡ text n ++ others)
  rest n zero = ([], ap text (omega arith) ∙ sym (append-nil (text n)))
  rest n (suc k) =
      let before = rest n k in (
        before.0 ++ piece (n + k),
        ap text (omega arith) ∙ more (n + k) ∙ ap (λ (l : List ℕ). l ++ piece (n + k)) before.1
            ∙ append_assoc (text n) before.0 (piece (n + k)),
      )

  -- one piece more
  pub grew :
      {S : Type 0} {w : S → Option (List ℕ)} {f : S → ℕ} {a b c : S} (n : ℕ) → Wrote w f a b (text n)
      → Wrote w f b c (piece n) → Wrote w f a c (text (n + 1))
  grew {w} {f} {a} {c} n done next =
      subst (λ (l : List ℕ). Wrote w f a c l) (sym (more n)) (wrote_later done next)

  -- a failure within a piece of a longer text
  pub stopped :
      {S T E : Type 0} {w : S → Option (List ℕ)} {f : S → ℕ} {a b c : S} (n m : ℕ) (r : Result T E) → n < m → IsErr r
      → Wrote w f a b (text n) → Stopped w f b c (piece n) → Writes w f a c (text m) r
  stopped {w} {f} {a} {c} n m r below failed done next =
      let others = rest (n + 1) (m - (n + 1)) in
      let whole : (text n ++ piece n) ++ others.0 ≡ text m =
      ap (λ (l : List ℕ). l ++ others.0) (sym (more n)) ∙ sym others.1 ∙ ap text (omega arith) in
      subst (λ (l : List ℕ). Writes w f a c l r) whole (stops others.0 r failed (stopped_later done next))
