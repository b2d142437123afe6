-- Room for the rows of a part of some stems.
use Rattle.std.proofs.Common.{◌≡◌, ℕ, ◌+◌, ◌-◌, ◌<◌, ◌≤◌, cond, leb, List, length, get_or, drop, take, sum_by}
use Rattle.std.proofs.Common.{arith, ap, sym, ◌∙◌, inl, inr}
use Rattle.std.proofs.lemmas.Bool.{cases_lt, le-leb, lt-leb}
use Rattle.std.proofs.lemmas.List.{length-drop, length-take-le, drop-drop, get_or-drop, get_or-take}
use Rattle.std.proofs.lemmas.List.Sums.{sum_by-drop_more, sum_by-take-drop}
use Rattle.vote_spread.specs.Stem.{Stem}
use Rattle.vote_spread.specs.Rows.{room_for}

-- room for the rows of the stems from i on
abbrev pub room_left : List Stem → (from to i : ℕ) → ℕ
room_left stems from to i =
    (from - i) + sum_by (λ (stem : Stem). length stem.tail + 1) (drop (i - from) (drop from (take to stems)))

pub room-begin : (stems : List Stem) (from to : ℕ) → room_left stems from to 0 ≡ room_for stems from to
room-begin stems from to =
    let one : 0 - from ≡ 0 = omega arith in
    let two : from - 0 ≡ from = omega arith in
    let f : Stem → ℕ = λ stem. length stem.tail + 1 in
    ap (λ n. (from - 0) + sum_by f (drop n (drop from (take to stems)))) one
    ∙ ap (λ n. n + sum_by f (drop from (take to stems))) two

pub room-next :
    (stems : List Stem) (from to i : ℕ) (d : Stem) → i < to → to ≤ length stems
    → room_left stems from to i
    ≡ 1 + cond (leb from i) (length (get_or stems i d).tail) 0 + room_left stems from to (i + 1)
room-next stems from to i d lt inside =
    let f : Stem → ℕ = λ stem. length stem.tail + 1 in
    let part = drop from (take to stems) in
    let size = length (get_or stems i d).tail in
    elim (cases_lt i from) [
      | inl before ↦
          let no : cond (leb from i) size 0 ≡ 0 = ap (λ b. cond b size 0) (lt-leb from i before) in
          let a : i - from ≡ 0 = omega arith in
          let b : (i + 1) - from ≡ 0 = omega arith in
          let same : sum_by f (drop (i - from) part) ≡ sum_by f (drop ((i + 1) - from) part) =
          ap (λ n. sum_by f (drop n part)) (a ∙ sym b) in
          omega arith
      | inr after ↦
          let yes : cond (leb from i) size 0 ≡ size = ap (λ b. cond b size 0) (le-leb from i after) in
          let taken : length (take to stems) ≡ to = length-take-le to stems inside in
          let e1 : from + (i - from) ≡ i = omega arith in
          let e2 : (i - from) + 1 ≡ (i + 1) - from = omega arith in
          let item : get_or part (i - from) d ≡ get_or stems i d =
          get_or-drop from (take to stems) (i - from) d
          ∙ (ap (λ n. get_or (take to stems) n d) e1 ∙ get_or-take to stems i d lt) in
          let more : sum_by f (drop (i - from) part) ≡ f (get_or part (i - from) d) + sum_by f (drop ((i - from) + 1) part) =
          sum_by-drop_more f part (i - from) d (omega (arith, length-drop from (take to stems))) in
          let here : f (get_or part (i - from) d) ≡ size + 1 = ap f item in
          let rest : sum_by f (drop ((i - from) + 1) part) ≡ sum_by f (drop ((i + 1) - from) part) =
          ap (λ n. sum_by f (drop n part)) e2 in
          omega arith
    ]

pub room-falls : (stems : List Stem) (from to i j : ℕ) → i ≤ j → room_left stems from to j ≤ room_left stems from to i
room-falls stems from to i j le =
    let f : Stem → ℕ = λ stem. length stem.tail + 1 in
    let part = drop from (take to stems) in
    let t = (j - from) - (i - from) in
    let e : (i - from) + t ≡ j - from = omega arith in
    let split = sum_by-take-drop f (drop (i - from) part) t in
    let rest : sum_by f (drop t (drop (i - from) part)) ≡ sum_by f (drop (j - from) part) =
    ap (sum_by f) (drop-drop t (i - from) part ∙ ap (λ n. drop n part) e) in
    omega arith
