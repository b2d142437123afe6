-- Tests joined by and, or and not.
use Rattle.std.proofs.Common.{◌≡◌, Bool, true, false, ◌&&◌, refl, inl, inr, ◌⊎◌, ◌||◌, not}

-- a conjunction with what is false
pub and_false : (a b : Bool) → b ≡ false → (a && b) ≡ false
and_false true b fails = fails
and_false false b fails = refl

pub and_first : (a b : Bool) → (a && b) ≡ true → a ≡ true
and_first true b both = refl
and_first false b both = both

pub and_second : (a b : Bool) → (a && b) ≡ true → b ≡ true
and_second true b both = both
and_second false b both = cc

-- what an implication says where its premise holds
pub implied : (a b : Bool) → (not a || b) ≡ true → a ≡ true → b ≡ true
implied true b holds is = holds
implied false b holds is = cc

pub or_cases : (a b : Bool) → (a || b) ≡ true → (a ≡ true) ⊎ (b ≡ true)
or_cases true b either = inl refl
or_cases false b either = inr either

pub or_left : (a b : Bool) → a ≡ true → (a || b) ≡ true
or_left true b is = refl
or_left false b is = cc

pub or_right : (a b : Bool) → b ≡ true → (a || b) ≡ true
or_right true b is = refl
or_right false b is = is
