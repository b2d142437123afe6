-- A boolean is true or false, and not both.
use Rattle.std.proofs.Common.{◌≡◌, Bool, true, false, refl, sym, ◌∙◌, true≢false}

pub off : {b : Bool} → b ≡ true → b ≡ false → ⊥
off t f = true≢false (sym t ∙ f)

pub is_false : (b : Bool) → (b ≡ true → ⊥) → b ≡ false
is_false true n = absurd (n refl)
is_false false n = refl
