-- The withdrawn candidates, listed by rising number, are marked as they were.
use Rattle.std.proofs.Common.{◌≡◌, ◌⊎◌, inl, inr, eq-eqb, ℕ, zero, suc, ◌+◌, ◌-◌, ◌<◌, ◌≤◌, ◌==◌, ◌&&◌, ◌||◌}
use Rattle.std.proofs.Common.{Bool, true, false, List, length, All, get_or, refl, sym, ap, ◌∙◌, arith}
use Rattle.std.specs.List.{list_any, range_with_len}
use Rattle.std.proofs.lemmas.Bool.Decides.{nat_tests}
use Rattle.std.proofs.lemmas.List.Elements.{All-filter}
use Rattle.std.proofs.lemmas.List.FromFn.{length-range_with_len, get_or-range_with_len, fill_by_all}
use Rattle.std.proofs.lemmas.Map.Views.{any-filter_same}
use Rattle.candidate_roll.specs.Roll.{is_withdrawn, is_listed, withdrawn_marks}
use Rattle.input_text.specs.Range.{IsIn}
use Rattle.blt_writer.specs.Text.{withdrawn_numbers}

below_or_at : (a c : ℕ) → a ≤ c → (suc a ≤ c) ⊎ (a ≡ c)
below_or_at a c low = grind arith

or_true : (b : Bool) → (b || true) ≡ true
or_true true = refl
or_true false = refl

in_either : (a c : ℕ) (behind : Bool) → ((suc a ≤ c) ⊎ (a ≡ c)) → (suc a ≤ c → behind ≡ true) → ((a == c) || behind) ≡ true
in_either a c behind (inl passed) there = rw (there passed) (or_true (a == c))
in_either a c behind (inr same) there = rw (eq-eqb a c same) refl

and_true : (a b : Bool) → b ≡ true → (a && b) ≡ a
and_true true b is = is
and_true false b is = refl

-- a number of a range is in it
in_range : (a n c : ℕ) → a ≤ c → c < a + n → list_any (λ d. d == c) (range_with_len a n) ≡ true
in_range a zero c low high = absurd (omega arith)
in_range a (suc n) c low high =
    in_either a c (list_any (λ d. d == c) (range_with_len (a + 1) n)) (below_or_at a c low)
    (λ passed. in_range (a + 1) n c (omega arith) (omega arith))

listed_as_marked :
    (withdrawn : List Bool) (k : ℕ) → k < length withdrawn
    → get_or withdrawn k false ≡ is_listed (withdrawn_numbers withdrawn) (k + 1)
listed_as_marked withdrawn k below =
    let n = length withdrawn in
    let same : (d : ℕ) → (d == k + 1) ≡ true → is_withdrawn withdrawn d ≡ get_or withdrawn k false =
    λ d is. (let at : d - 1 ≡ k = grind (arith, nat_tests) in ap (λ (i : ℕ). get_or withdrawn i false) at) in
    let there = in_range 1 n (k + 1) (omega arith) (omega arith) in
    let both =
    any-filter_same (λ d. d == k + 1) (is_withdrawn withdrawn) (get_or withdrawn k false) same
    (range_with_len 1 n) in
    sym (both ∙ and_true (get_or withdrawn k false) (list_any (λ d. d == k + 1) (range_with_len 1 n)) there)

pub marks_are :
    (n : ℕ) (withdrawn : List Bool) → length withdrawn ≡ n
    → withdrawn ≡ withdrawn_marks n (withdrawn_numbers withdrawn)
marks_are n withdrawn same =
    fill_by_all (λ p. is_listed (withdrawn_numbers withdrawn) (p + 1)) withdrawn n false same
    (λ k below. listed_as_marked withdrawn k (omega (arith, same)))

-- they are candidates
pub numbers_are : (withdrawn : List Bool) → All (IsIn (length withdrawn)) (withdrawn_numbers withdrawn)
numbers_are withdrawn =
    let n = length withdrawn in
    All-filter (is_withdrawn withdrawn) (IsIn n) (range_with_len 1 n)
    (λ i d inside.
    (let many = length-range_with_len 1 n in
    let is = get_or-range_with_len 1 n i d (omega (arith, inside, many)) in
    record { least = omega (arith, is); most = omega (arith, is, inside, many) }))
