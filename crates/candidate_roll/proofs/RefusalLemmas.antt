-- Names and rolls are refused for one reason at most.
use Rattle.std.proofs.Common.{◌≡◌, ℕ, ◌<◌, ◌≤◌, List, length, get_or, take, arith, refl, ap, subst, inl, inr}
use Rattle.std.proofs.lemmas.List.{get_or-take, length-take}
use Rattle.std.proofs.lemmas.Bool.{cases_order}
use Rattle.candidate_roll.specs.declared.name_stop.NameStop.{NameStop}
use Rattle.candidate_roll.specs.declared.name_stop.NameStop.TheVariants.{TooLong, BadByte, NoMemory}
use Rattle.candidate_roll.specs.declared.roll_stop.RollStop.{RollStop}
use Rattle.candidate_roll.specs.declared.roll_stop.RollStop.TheVariants.{BadCount, BadSeats, NoMemory as NoRoom}
use Rattle.candidate_roll.specs.Name.{IsPrintable, IsBadByteAt, IsNameStop}
use Rattle.candidate_roll.specs.Roll.{IsRollStop}

-- a bad byte doesn't stand before another
bad_byte-first : (most : ℕ) (bytes : List ℕ) (a b : ℕ) → IsBadByteAt most bytes a → IsBadByteAt most bytes b → a < b → ⊥
bad_byte-first most bytes a b one other less =
    one.not_printable (subst IsPrintable (get_or-take b bytes a 0 less)
    (other.printable_before a 0 (omega (arith, one.inside, other.inside, length-take b bytes))))

same_bad_byte : (most : ℕ) (bytes : List ℕ) (a b : ℕ) → IsBadByteAt most bytes a → IsBadByteAt most bytes b → a ≡ b
same_bad_byte most bytes a b one other =
    elim (cases_order a b) [
      | inl same ↦ same
      | inr (inl less) ↦ absurd (bad_byte-first most bytes a b one other less)
      | inr (inr more) ↦ absurd (bad_byte-first most bytes b a other one more)
    ]

pub one_name_refusal :
    (most : ℕ) (bytes : List ℕ) (one other : NameStop) → IsNameStop most bytes one
    → IsNameStop most bytes other → one ≡ other
one_name_refusal most bytes TooLong TooLong a b = refl
one_name_refusal most bytes TooLong (BadByte at) a b = absurd (omega (arith, a, b.short))
one_name_refusal most bytes TooLong NoMemory a b = absurd (omega (arith, a, b.short))
one_name_refusal most bytes (BadByte at) TooLong a b = absurd (omega (arith, b, a.short))
one_name_refusal most bytes (BadByte at) (BadByte other) a b = ap BadByte (same_bad_byte most bytes at other a b)
one_name_refusal most bytes (BadByte at) NoMemory a b = absurd (a.not_printable (b.printable at 0 a.inside))
one_name_refusal most bytes NoMemory TooLong a b = absurd (omega (arith, b, a.short))
one_name_refusal most bytes NoMemory (BadByte at) a b = absurd (b.not_printable (a.printable at 0 b.inside))
one_name_refusal most bytes NoMemory NoMemory a b = refl

pub one_roll_refusal :
    (seats candidates : ℕ) (one other : RollStop) → IsRollStop seats candidates one
    → IsRollStop seats candidates other → one ≡ other
one_roll_refusal seats candidates BadCount BadCount a b = refl
one_roll_refusal seats candidates BadCount BadSeats a b = absurd (a b.0)
one_roll_refusal seats candidates BadCount NoRoom a b = absurd (a b.0)
one_roll_refusal seats candidates BadSeats BadCount a b = absurd (b a.0)
one_roll_refusal seats candidates BadSeats BadSeats a b = refl
one_roll_refusal seats candidates BadSeats NoRoom a b = absurd (a.1 b.1)
one_roll_refusal seats candidates NoRoom BadCount a b = absurd (b a.0)
one_roll_refusal seats candidates NoRoom BadSeats a b = absurd (b.1 a.1)
one_roll_refusal seats candidates NoRoom NoRoom a b = refl
