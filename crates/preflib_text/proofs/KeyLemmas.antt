-- Keys and numbers as the reader keeps them.
use Rattle.std.proofs.Common.{◌≡◌, ℕ, ◌≤◌, true, false, eqb, Option, Some, None, refl, ap, arith}
use Rattle.std.specs.Option.{option_map, option_map_or}
use Rattle.std.proofs.lemmas.Bool.Decides.{nat_tests}
use Rattle.plain_ballots.specs.declared.limits.TheConstants.{MOST_CANDIDATES}
use Rattle.preflib_text.specs.Metadata.{is_few, is_candidate}
use Rattle.preflib_text.specs.Reading.{capped}

pub few_number : (n : ℕ) → is_few (capped n) ≡ is_few n
few_number n = grind (arith, nat_tests)

pub few_capped : (o : Option ℕ) → option_map_or is_few (option_map capped o) false ≡ option_map_or is_few o false
few_capped None = refl
few_capped (Some n) = few_number n

pub few_most : (n : ℕ) → is_few n ≡ true → n ≤ MOST_CANDIDATES
few_most n is = grind (arith, nat_tests)

small_capped : (n : ℕ) → n ≤ MOST_CANDIDATES → capped n ≡ n
small_capped n small = grind arith

-- a number of candidates is kept as it is
pub few_kept : (o : Option ℕ) → option_map_or is_few o false ≡ true → option_map capped o ≡ o
few_kept None few = refl
few_kept (Some n) few = ap Some (small_capped n (few_most n few))

within : (c n : ℕ) → c ≤ MOST_CANDIDATES → is_candidate (Some c) (Some (capped n)) ≡ is_candidate (Some c) (Some n)
within c n small = grind (arith, nat_tests)

below : (c n : ℕ) → is_candidate (Some c) (Some n) ≡ true → n ≤ c
below c n is = grind (arith, nat_tests)

-- so is a candidate's
pub candidate_capped : (c : Option ℕ) (n : ℕ) → option_map_or is_few c true ≡ true
    → is_candidate c (Some (capped n)) ≡ is_candidate c (Some n)
candidate_capped None n few = refl
candidate_capped (Some c) n few = within c n (few_most c few)

pub candidate_kept : (c : Option ℕ) (n : ℕ) → option_map_or is_few c true ≡ true
    → is_candidate c (Some n) ≡ true → capped n ≡ n
candidate_kept None n few is = absurd (cc is)
candidate_kept (Some c) n few is =
    let most = few_most c few in
    let less = below c n is in
    small_capped n (omega arith)

-- and it is no other number that is kept
pub same_capped : (m n : ℕ) → m ≤ MOST_CANDIDATES → eqb m (capped n) ≡ eqb m n
same_capped m n small = grind (arith, nat_tests)

pub candidate_small : (c : Option ℕ) (n : ℕ) → option_map_or is_few c true ≡ true
    → is_candidate c (Some n) ≡ true → n ≤ MOST_CANDIDATES
candidate_small None n few is = absurd (cc is)
candidate_small (Some c) n few is =
    let most = few_most c few in
    let less = below c n is in
    omega arith
