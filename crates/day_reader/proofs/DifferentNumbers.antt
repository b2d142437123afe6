-- Different numbers up to a greatest one.
use Rattle.std.proofs.Common.{◌≡◌, ◌≢◌, ℕ, zero, suc, ◌+◌, ◌-◌, ◌<◌, ◌≤◌, ◌==◌, Bool, true, false, List, []}
use Rattle.std.proofs.Common.{◌∷◌, ◌++◌, length, get_or, AllPairs, Contains, refl, sym, ◌∙◌, ap, arith, inl}
use Rattle.std.proofs.Common.{inr, ◌⊎◌, nat_eq}
use Rattle.std.specs.List.{list_any, range_with_len}
use Rattle.std.specs.Set.{is_member}
use Rattle.std.specs.Cmp.{nat_eq_equiv}
use Rattle.std.proofs.lemmas.Bool.{true≢false, eq-eqb}
use Rattle.std.proofs.lemmas.Bool.Decides.{Decides-eqb, eqb_tells}
use Rattle.std.proofs.lemmas.List.Elements.{All-nil, All-push, All-contains}
use Rattle.std.proofs.lemmas.List.Folds.{list_any_at}
use Rattle.std.proofs.lemmas.List.FromFn.{length-range_with_len, get_or-range_with_len}
use Rattle.std.proofs.lemmas.List.Quantifiers.{all_pairs_push}
use Rattle.std.proofs.lemmas.Map.Made.{is_member-Decides, length-le_from_is_member, IsDistinct-from_AllPairs}
use Rattle.input_text.specs.Range.{IsIn}
use Rattle.day_reader.specs.Day.{AreDifferent}

pub no_numbers : (greatest : ℕ) → AreDifferent greatest []
no_numbers greatest = record { in_range = All-nil (IsIn greatest); different = λ i j d before within. absurd (omega arith) }

pub one_number_more :
    (greatest : ℕ) (numbers : List ℕ) (n : ℕ) → AreDifferent greatest numbers → IsIn greatest n
    → list_any (λ c. c == n) numbers ≡ false → AreDifferent greatest (numbers ++ n ∷ [])
one_number_more greatest numbers n are is new = record {
  in_range = All-push (IsIn greatest) numbers n are.in_range is;
  different = all_pairs_push (λ a b. a ≢ b) numbers n are.different (λ k d inside same.
      true≢false (sym (list_any_at (λ c. c == n) numbers k d inside (eq-eqb (get_or numbers k d) n same)) ∙ new));
}

-- ---- how many there are

up_to : (greatest n : ℕ) → IsIn greatest n → Contains (range_with_len 1 greatest) n
up_to greatest n is =
    let inside : n - 1 < greatest = omega (arith, is.least, is.most) in
    let number : 1 + (n - 1) ≡ n = omega (arith, is.least) in (
      n - 1,
      omega (arith, inside, length-range_with_len 1 greatest),
      get_or-range_with_len 1 greatest (n - 1) n inside ∙ number,
    )

-- different numbers are at most as many as the greatest says
pub at_most : (greatest : ℕ) (numbers : List ℕ) → AreDifferent greatest numbers → length numbers ≤ greatest
at_most greatest numbers are =
    let distinct = IsDistinct-from_AllPairs {eq = nat_eq} Decides-eqb numbers are.different in
    let fewer = length-le_from_is_member nat_eq_equiv numbers (range_with_len 1 greatest) distinct (λ q found.
    (is_member-Decides Decides-eqb (range_with_len 1 greatest) q).1
    (up_to greatest q (All-contains (IsIn greatest) numbers q are.in_range
    ((is_member-Decides Decides-eqb numbers q).0 found)))) in
    omega (arith, fewer, length-range_with_len 1 greatest)

abbrev Missing : ℕ → List ℕ → Type 0
Missing greatest numbers = (n : ℕ) × IsIn greatest n × (list_any (λ c. c == n) numbers ≡ false)

abbrev AllStand : ℕ → List ℕ → Type 0
AllStand greatest numbers = (n : ℕ) → IsIn greatest n → list_any (λ c. c == n) numbers ≡ true

wider : (greatest n : ℕ) → IsIn greatest n → IsIn (suc greatest) n
wider greatest n is = record { least = is.least; most = omega (arith, is.most) }

or_missing :
    (greatest : ℕ) (numbers : List ℕ) (stands : Bool) → list_any (λ c. c == suc greatest) numbers ≡ stands
    → Missing greatest numbers ⊎ AllStand greatest numbers → Missing (suc greatest) numbers ⊎ AllStand (suc greatest) numbers
or_missing greatest numbers stands is (inl found) = inl (found.0, wider greatest found.0 found.1, found.2)
or_missing greatest numbers false is (inr all) = inl (suc greatest, record { least = omega arith; most = omega arith }, is)
or_missing greatest numbers true is (inr all) = inr (λ n in_it. elim (eqb_tells n (suc greatest)) [
  | inl last ↦ ap (λ (m : ℕ). list_any (λ c. c == m) numbers) last.1 ∙ is
  | inr other ↦ all n (record { least = in_it.least; most = omega (arith, in_it.most, other.1) })
])

sought : (greatest : ℕ) (numbers : List ℕ) → Missing greatest numbers ⊎ AllStand greatest numbers
sought zero numbers = inr (λ n is. absurd (omega (arith, is.least, is.most)))
sought (suc greatest) numbers =
    or_missing greatest numbers (list_any (λ c. c == suc greatest) numbers) refl (sought greatest numbers)

in_range_of : (greatest n : ℕ) → Contains (range_with_len 1 greatest) n → IsIn greatest n
in_range_of greatest n found =
    let inside : found.0 < greatest = omega (arith, found.1, length-range_with_len 1 greatest) in
    let is = sym (get_or-range_with_len 1 greatest found.0 n inside) ∙ found.2 in
    record { least = omega (arith, is); most = omega (arith, is, inside) }

range_different : (n : ℕ) → AllPairs (λ a b. a ≢ b) (range_with_len 1 n)
range_different n i j d before inside same =
    let there : j < n = omega (arith, inside, length-range_with_len 1 n) in
    let here : i < n = omega (arith, before, there) in
    omega (arith, before, get_or-range_with_len 1 n i d here, get_or-range_with_len 1 n j d there, same)

pub turned : (a b : ℕ) → (a == b) ≡ (b == a)
turned a b = grind arith

stands_in : (numbers : List ℕ) (n : ℕ) → list_any (λ c. c == n) numbers ≡ is_member nat_eq numbers n
stands_in [] n = refl
stands_in (c ∷ numbers) n = rw (turned c n, stands_in numbers n) refl

-- where there are fewer, one can come after them
pub one_is_missing :
    (greatest : ℕ) (numbers : List ℕ) → length numbers < greatest
    → (n : ℕ) × IsIn greatest n × (list_any (λ c. c == n) numbers ≡ false)
one_is_missing greatest numbers fewer = elim (sought greatest numbers) [
  | inl found ↦ found
  | inr all ↦ (
      let distinct =
      IsDistinct-from_AllPairs {eq = nat_eq} Decides-eqb (range_with_len 1 greatest)
      (range_different greatest) in
      let more = length-le_from_is_member nat_eq_equiv (range_with_len 1 greatest) numbers distinct (λ q found.
      sym (stands_in numbers q)
      ∙ all q
      (in_range_of greatest q ((is_member-Decides Decides-eqb (range_with_len 1 greatest) q).0 found))) in
      absurd (omega (arith, fewer, more, length-range_with_len 1 greatest))
      )
]
