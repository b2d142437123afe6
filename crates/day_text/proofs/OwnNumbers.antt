-- At how many places a text has the form of the text of a day.
use Rattle.std.proofs.Common.{◌≡◌, ℕ, ◌+◌, ◌<◌, ◌≤◌, Bool, true, false, List, arith, inl, inr, subst}
use Rattle.std.specs.Prelude.{MatchBool}
use Rattle.std.proofs.lemmas.Bool.{cases_lt}
use Rattle.day_text.specs.OwnPlaces.{HasOwnPlaces, IsDayForm, IsNoDay}

-- the text has the form at no number of places above this one
abbrev pub HasNoneAbove : List ℕ → ℕ → Type 0
HasNoneAbove bytes n = (other : ℕ) → n < other → other ≤ 9 → ¬ (IsDayForm other bytes)

pub none_above_nine : (bytes : List ℕ) → HasNoneAbove bytes 9
none_above_nine bytes other above few form = omega (arith, above, few)

pub none_above_less :
    (bytes : List ℕ) (n : ℕ) → HasNoneAbove bytes (n + 1) → ¬ (IsDayForm (n + 1) bytes) → HasNoneAbove bytes n
none_above_less bytes n above not other more few form =
    elim (cases_lt (n + 1) other) [
      | inl lt ↦ above other lt few form
      | inr le ↦
          let same : other ≡ n + 1 = omega (arith, more, le) in
          not (subst (λ (k : ℕ). IsDayForm k bytes) same form)
    ]

pub own_at :
    (bytes : List ℕ) (n : ℕ) → 6 ≤ n → n ≤ 9 → IsDayForm n bytes → HasNoneAbove bytes n → HasOwnPlaces bytes n
own_at bytes n from few form above = record { from = from; to = few; form = form; greatest = above }

pub no_day : (bytes : List ℕ) → HasNoneAbove bytes 5 → IsNoDay bytes
no_day bytes none places from few form = none places (omega (arith, from)) few form

-- what a test says that was answered by yes, and by no
pub said_yes : (answer : Bool) (P Q : Type 0) → MatchBool answer P Q → answer ≡ true → P
said_yes true P Q says is = says
said_yes false P Q says is = absurd cc

pub said_no : (answer : Bool) (P Q : Type 0) → MatchBool answer P Q → answer ≡ false → Q
said_no true P Q says is = absurd cc
said_no false P Q says is = says
