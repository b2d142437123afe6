-- What a part of some stems is still to give.
use Rattle.std.proofs.Common.{◌≡◌, ℕ, ◌+◌, ◌-◌, ◌<◌, ◌≤◌, true, false, cond, List, [], ◌∷◌, length, get_or}
use Rattle.std.proofs.Common.{drop, take, sum, arith, ap, sym, ◌∙◌, inl, inr, leb, zero-add}
use Rattle.std.proofs.lemmas.List.{get_or-drop, get_or-take, get_or_past, length-take, length-drop, length-take-le}
use Rattle.std.proofs.lemmas.Bool.{cases_lt, le-leb, lt-leb}
use Rattle.std.proofs.lemmas.List.Sums.{sum_by-drop_more, sum_by-take-le, sum_by-take-drop}
use Rattle.vote_spread.specs.Stem.{Stem}
use Rattle.vote_spread.specs.Walk.{IsFrom}
use Rattle.vote_spread.specs.Gain.{gains, opening, part}
use Rattle.vote_spread.proofs.GainLemmas.{length-gains, sum-drop_zeros}

-- what stems from i on of a part give to a candidate
abbrev pub still : (s : ℕ) (keeps : List ℕ) (c : ℕ) (stems : List Stem) (from to i : ℕ) → ℕ
still s keeps c stems from to i = sum (drop (i - from) (drop from (take to (gains s keeps c (opening s) stems))))

-- no deeper than d is no deeper than d + 1
pub from_more : (d : ℕ) (stems : List Stem) → IsFrom d stems → IsFrom (d + 1) stems
from_more d [] from = tt
from_more d (stem ∷ stems) from = omega arith

-- before the part nothing is to be given yet
pub still_before :
    (s : ℕ) (keeps : List ℕ) (c : ℕ) (stems : List Stem) (from to i j : ℕ) → i ≤ from → j ≤ from
    → still s keeps c stems from to i ≡ still s keeps c stems from to j
still_before s keeps c stems from to i j one other =
    let e : i - from ≡ j - from = omega arith in
    ap (λ n. sum (drop n (drop from (take to (gains s keeps c (opening s) stems))))) e

-- the stem at i of the part
pub still_here :
    (s : ℕ) (keeps : List ℕ) (c : ℕ) (stems : List Stem) (from to i : ℕ) → from ≤ i → i < to
    → to ≤ length stems
    → still s keeps c stems from to i
    ≡ get_or (gains s keeps c (opening s) stems) i 0 + still s keeps c stems from to (i + 1)
still_here s keeps c stems from to i after below inside =
    let all = gains s keeps c (opening s) stems in
    let part = drop from (take to all) in
    let size = length-gains s keeps c (opening s) stems in
    let taken : length (take to all) ≡ to = length-take-le to all (omega arith) in
    let long : length part ≡ length (take to all) - from = length-drop from (take to all) in
    let e1 : from + (i - from) ≡ i = omega arith in
    let e2 : (i - from) + 1 ≡ (i + 1) - from = omega arith in
    let item : get_or part (i - from) 0 ≡ get_or all i 0 =
    get_or-drop from (take to all) (i - from) 0
    ∙ (ap (λ n. get_or (take to all) n 0) e1 ∙ get_or-take to all i 0 below) in
    sum_by-drop_more (λ x. x) part (i - from) 0 (omega arith)
    ∙ (ap (λ n. n + sum (drop ((i - from) + 1) part)) item ∙ ap (λ n. get_or all i 0 + sum (drop n part)) e2)

-- stems that give nothing
pub still_jump :
    (s : ℕ) (keeps : List ℕ) (c : ℕ) (stems : List Stem) (from to i j : ℕ) → i ≤ j
    → ((k : ℕ) → i ≤ k → k < j → get_or (gains s keeps c (opening s) stems) k 0 ≡ 0)
    → still s keeps c stems from to i ≡ still s keeps c stems from to j
still_jump s keeps c stems from to i j le none =
    let all = gains s keeps c (opening s) stems in
    let part = drop from (take to all) in
    let t = (j - from) - (i - from) in
    let e : (i - from) + t ≡ j - from = omega arith in
    let item : (k : ℕ) → i - from ≤ k → k < (i - from) + t → get_or part k 0 ≡ 0 =
    λ k over under.
    get_or-drop from (take to all) k 0
    ∙ elim (cases_lt (from + k) to) [
      | inl lt ↦ get_or-take to all (from + k) 0 lt ∙ none (from + k) (omega arith) (omega arith)
      | inr past ↦ get_or_past (take to all) (from + k) 0 (omega (arith, length-take to all))
    ] in
    sum-drop_zeros part (i - from) t item ∙ ap (λ n. sum (drop n part)) e

-- all that a part gives is within what all stems give
pub part-le :
    (s : ℕ) (keeps : List ℕ) (c : ℕ) (stems : List Stem) (from to : ℕ)
    → part s keeps c stems from to ≤ sum (gains s keeps c (opening s) stems)
part-le s keeps c stems from to =
    let all = gains s keeps c (opening s) stems in
    let one = sum_by-take-le (λ x. x) all to in
    let two = sum_by-take-drop (λ x. x) (take to all) from in
    omega arith

-- a stem counts where it is in the part
pub still_visit :
    (s : ℕ) (keeps : List ℕ) (c : ℕ) (stems : List Stem) (from to i : ℕ) → i < to → to ≤ length stems
    → still s keeps c stems from to i
    ≡ cond (leb from i) (get_or (gains s keeps c (opening s) stems) i 0) 0
    + still s keeps c stems from to (i + 1)
still_visit s keeps c stems from to i below inside =
    let g = get_or (gains s keeps c (opening s) stems) i 0 in
    let next = still s keeps c stems from to (i + 1) in
    elim (cases_lt i from) [
      | inl before ↦
          let no : leb from i ≡ false = lt-leb from i before in
          still_before s keeps c stems from to i (i + 1) (omega arith) (omega arith)
          ∙ (sym (zero-add next) ∙ ap (λ b. cond b g 0 + next) (sym no))
      | inr after ↦
          let yes : leb from i ≡ true = le-leb from i after in
          still_here s keeps c stems from to i after below inside ∙ ap (λ b. cond b g 0 + next) (sym yes)
    ]
