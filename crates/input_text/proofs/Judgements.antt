-- Results of a judgement, and the tests of which they are made.
use Rattle.std.proofs.Common.{◌≡◌, ℕ, ◌≤◌, Bool, true, false, cond, refl, ap, arith, inl, inr, ◌⊎◌, nat_le, ◌==◌, Ok, Err}
use Rattle.std.specs.Prelude.{Result, is_ok, Option, Some, None, is_some}
use Rattle.std.proofs.lemmas.Bool.{false≢true, true≢false, leb-true, le-leb, ne_eqb, and_parts, and_from}
use Rattle.input_text.specs.Range.{IsIn, is_in}

module _ {A E : Type 0} where
  pub refused : {kind : E} {x : A} → ◌≡◌ {A = Result A E} (Err kind) (Ok x) → ⊥
  refused e = false≢true (ap is_ok e)

  pub accepted : {kind : E} {x : A} → ◌≡◌ {A = Result A E} (Ok x) (Err kind) → ⊥
  accepted e = true≢false (ap is_ok e)

  value_or : A → Result A E → A
  value_or other (Ok x) = x
  value_or other (Err kind) = other

  pub same_value : {x y : A} → ◌≡◌ {A = Result A E} (Ok x) (Ok y) → x ≡ y
  unfolding value_or
  same_value {x} e = ap (value_or x) e

  kind_or : E → Result A E → E
  kind_or other (Ok x) = other
  kind_or other (Err kind) = kind

  pub same_kind : {a b : E} → ◌≡◌ {A = Result A E} (Err a) (Err b) → a ≡ b
  unfolding kind_or
  same_kind {a} e = ap (kind_or a) e

  -- a test that has to have passed
  pub passed :
      (b : Bool) (v y : A) (kind : E) → ◌≡◌ {A = Result A E} (cond b (Ok v) (Err kind)) (Ok y) → (b ≡ true) × (v ≡ y)
  passed true v y kind e = (refl, same_value e)
  passed false v y kind e = absurd (refused e)

-- a test that can't have passed, whatever would have come of it
pub failed :
    {A B E : Type 0} (b : Bool) (v : A) (w : B) (kind other : E)
    → ◌≡◌ {A = Result A E} (cond b (Ok v) (Err kind)) (Err other)
    → ◌≡◌ {A = Result B E} (cond b (Ok w) (Err kind)) (Err other)
failed true v w kind other e = absurd (accepted e)
failed false v w kind other e = ap Err (same_kind e)

module _ {A : Type 0} where
  some_or : A → Option A → A
  some_or other (Some x) = x
  some_or other None = other

  pub same_some : {x y : A} → Some x ≡ Some y → x ≡ y
  unfolding some_or
  same_some {x} e = ap (some_or x) e

  pub none_not : {x : A} → None ≡ Some x → ⊥
  none_not e = false≢true (ap is_some e)

-- which way a test went
pub went : {A : Type 0} (b : Bool) (x y z : A) → cond b x y ≡ z → ((b ≡ true) × (x ≡ z)) ⊎ ((b ≡ false) × (y ≡ z))
went true x y z e = inl (refl, e)
went false x y z e = inr (refl, e)

pub in_range : (greatest n : ℕ) → is_in greatest n ≡ true → IsIn greatest n
in_range greatest n e =
    let both = and_parts (nat_le 1 n) (nat_le n greatest) e in
    record { least = leb-true 1 n both.0; most = leb-true n greatest both.1 }

pub to_range : (greatest n : ℕ) → IsIn greatest n → is_in greatest n ≡ true
to_range greatest n is = and_from (nat_le 1 n) (nat_le n greatest) (le-leb 1 n is.least) (le-leb n greatest is.most)

pub not_zero : (n : ℕ) → (n == 0) ≡ false → 1 ≤ n
not_zero n e = grind arith

pub nonzero : (n : ℕ) → 1 ≤ n → (n == 0) ≡ false
nonzero n some = ne_eqb n 0 (λ zero_is. absurd (omega (arith, zero_is)))
