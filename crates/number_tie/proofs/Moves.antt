-- Each step of a tie keeps its rule.
use Rattle.std.proofs.Common.{◌≡◌, ◌≢◌, ℕ, ◌+◌, ◌<◌, set, refl, sym, ap, ◌∙◌, ⊎_elim, arith}
use mathlib.Core.Option.{some}
use lib.ListN.{get_elem?}
use Rattle.atomic_table.specs.Table.{Me, keeps, Allows, Splits, Joins}
use Rattle.atomic_table.proofs.Lists.{at_set, at_snoc, set_else}
use Rattle.number_tie.specs.declared.share.Share.{Share}
use Rattle.number_tie.specs.Share.{single, whole, spent, merged}
use Rattle.number_tie.specs.Tied.{Tied, Raised}
use Rattle.number_tie.proofs.Parts.{parts-set, parts-snoc, others_spent}

-- a share equal to one whose two numbers are n has them too
same_number : (w u : Share) (n : ℕ) → w.number ≡ n → w.beside ≡ n → w ≡ u → (u.number ≡ n) × (u.beside ≡ n)
same_number w u n is beside e = (sym (ap (λ (z : Share). z.number) e) ∙ is, sym (ap (λ (z : Share). z.beside) e) ∙ beside)

module _ {S : Type 0} where
  -- a share with both parts may raise the number
  pub stores :
      (slots id by : ℕ) (me : Me S Share) → me.0.parts ≡ 2
      → Allows {S = S} Tied slots id me 0 (λ _. 0) (λ _ m'. Raised by me m')
  stores slots id by me both s r len at small =
      let n = r.1.0 in
      let v = me.0 in
      let mine = r.1.1 id v at (omega arith) in
      let w = whole (v.number + by) in
      let is : v.number + by ≡ n + by = ap (λ (z : ℕ). z + by) mine.0 in
      let sum = parts-set s.views id v w at in
      let total = r.0 in (
        w,
        keeps,
        tt,
        (
          omega arith,
          (
            n + by,
            λ k u e some_part. ⊎_elim
                (λ (x : (k ≡ id) × (w ≡ u)). same_number w u (n + by) is is x.1)
                (λ (x : (k ≢ id) × (get_elem? s.views k ≡ some u)).
                absurd (others_spent s.views id k v u (total ∙ sym both) at x.0 x.1 some_part))
                (at_set s.views id k w u e),
          ),
        ),
        (mine.1 ∙ sym mine.0, refl, refl),
      )

  -- a share with both parts may be cut in two
  pub splits : (id : ℕ) (v : Share) → v.parts ≡ 2 → Splits {S = S} Tied id v (single v.number) (single v.beside)
  splits id v both s r at =
      let n = r.1.0 in
      let w = single v.number in
      let w' = single v.beside in
      let mine = r.1.1 id v at (omega arith) in
      let sum = parts-set s.views id v w at in
      let more = parts-snoc (set s.views id w) w' in
      let total = r.0 in (
        omega arith,
        (
          n,
          λ k u e some_part. ⊎_elim
              (λ (was : get_elem? (set s.views id w) k ≡ some u). ⊎_elim
              (λ (x : (k ≡ id) × (w ≡ u)). same_number w u n mine.0 mine.0 x.1)
              (λ (x : (k ≢ id) × (get_elem? s.views k ≡ some u)). r.1.1 k u x.1 some_part)
              (at_set s.views id k w u was))
              (λ (x : w' ≡ u). same_number w' u n mine.1 mine.1 x)
              (at_snoc (set s.views id w) w' u k e),
        ),
      )

  -- two shares that are not spent may become one
  pub joins :
      (id : ℕ) (v : Share) (other : ℕ) (w : Share) → 0 < v.parts → 0 < w.parts
      → Joins {S = S} Tied id v other w (merged v w) spent
  joins id v other w some_v some_w s r at apart there' =
      let n = r.1.0 in
      let both = merged v w in
      let views = set s.views id both in
      let there : get_elem? s.views other ≡ some w = sym (set_else s.views id other both apart) ∙ there' in
      let mine = r.1.1 id v at some_v in
      let theirs = r.1.1 other w there some_w in
      let sum = parts-set s.views id v both at in
      let more = parts-set views other w spent there' in
      let total = r.0 in (
        omega arith,
        (
          n,
          λ k u e some_part. ⊎_elim
              (λ (x : (k ≡ other) × (spent ≡ u)). let none : 0 ≡ u.parts =
              ap (λ (z : Share). z.parts) x.1 in
              absurd (omega arith))
              (λ (x : (k ≢ other) × (get_elem? views k ≡ some u)). ⊎_elim
              (λ (y : (k ≡ id) × (both ≡ u)). same_number both u n mine.0 theirs.0 y.1)
              (λ (y : (k ≢ id) × (get_elem? s.views k ≡ some u)). r.1.1 k u y.1 some_part)
              (at_set s.views id k both u x.1))
              (at_set views other k spent u e),
        ),
      )
