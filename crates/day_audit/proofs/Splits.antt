-- An input is split at one place, the first line `end` after which no further sheet begins.
use Rattle.std.proofs.Common.{◌≡◌, ℕ, ◌+◌, ◌<◌, ◌≤◌, List, length, take, drop, refl, sym, ap, ◌∙◌, arith, inl, inr}
use Rattle.std.proofs.lemmas.Bool.{cases_lt}
use Rattle.sheet_check.specs.Input.{HasEndAt}
use Rattle.sheet_check.proofs.Ends.{end_fits as end_within}
use Rattle.day_audit.specs.Input.{HasNoLastEnd, IsLastEnd, IsDaySplit}

-- the line fits into the input
pub end_fits : (input : List ℕ) (at : ℕ) → HasEndAt input at → at + 4 ≤ length input
end_fits input at stands = end_within input at stands

pub last_fits : (input : List ℕ) (at : ℕ) → IsLastEnd input at → at + 4 ≤ length input
last_fits input at last = end_within input at last.stands

pub nowhere : (input : List ℕ) → ((k : ℕ) → k < length input → ¬ IsLastEnd input k) → HasNoLastEnd input
nowhere input none at last = none at (omega (arith, end_within input at last.stands)) last

pub split_at_end :
    (input : List ℕ) (at : ℕ) → IsLastEnd input at → ((k : ℕ) → k < at → ¬ IsLastEnd input k)
    → IsDaySplit input (take (at + 4) input) (drop (at + 4) input)
split_at_end input at ends none = record { at = at; ends = ends; none_before = none; text_is = refl; file_is = refl }

same_place : (input text file other_text other : List ℕ) → (one : IsDaySplit input text file)
    → (again : IsDaySplit input other_text other) → one.at ≡ again.at
same_place input text file other_text other one again =
    elim (cases_lt one.at again.at) [
      | inl lt ↦ absurd (again.none_before one.at lt one.ends)
      | inr le ↦ elim (cases_lt again.at one.at) [
        | inl lt ↦ absurd (one.none_before again.at lt again.ends)
        | inr ge ↦ omega (arith, le, ge)
      ]
    ]

-- so the text is one
pub text_once :
    (input text file other_text other : List ℕ) → IsDaySplit input text file → IsDaySplit input other_text other
    → text ≡ other_text
text_once input text file other_text other one again =
    one.text_is
    ∙ (ap (λ (at : ℕ). take (at + 4) input) (same_place input text file other_text other one again) ∙ sym again.text_is)

-- and so is the file after it
pub file_once :
    (input text file other_text other : List ℕ) → IsDaySplit input text file
    → IsDaySplit input other_text other → other ≡ file
file_once input text file other_text other one again =
    again.file_is
    ∙ (ap (λ (at : ℕ). drop (at + 4) input) (sym (same_place input text file other_text other one again)) ∙ sym one.file_is)
