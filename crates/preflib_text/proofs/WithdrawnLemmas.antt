-- The withdrawn of a text without a fault are its candidates.
use Rattle.std.proofs.Common.{◌≡◌, refl, ℕ, ◌+◌, ◌≤◌, Bool, true, false, cond, eqb, ◌||◌, Option, Some, None, ap, sym, ◌∙◌}
use Rattle.std.proofs.Common.{List, length, map, All, position, subst, arith}
use Rattle.std.specs.Prelude.{nat_lt, unwrap_or, is_none}
use Rattle.std.specs.List.{list_any, position_or_len, range_with_len, slice_get}
use Rattle.std.specs.Option.{option_map, option_and_then}
use Rattle.std.proofs.lemmas.Bool.{true≢false, ltb-false, eqb-false}
use Rattle.std.proofs.lemmas.List.Elements.{All-from_get_or, All-weaker}
use Rattle.std.proofs.lemmas.List.FromFn.{length-map-range_with_len}
use Rattle.std.proofs.lemmas.List.Sums.{fails_before_first}
use Rattle.preflib_text.specs.declared.pref_fault.PrefFault.TheVariants as fault
use Rattle.preflib_text.specs.declared.pref_kind.PrefKind.TheVariants.{BadHeader, NameExpected, BadWithdrawn}
use Rattle.preflib_text.specs.Asked.{Asked}
use Rattle.preflib_text.specs.Faults.{in_line}
use Rattle.preflib_text.specs.Head.{bad_withdrawn}
use Rattle.preflib_text.specs.Heading.{heading_fault, next_or_end}
use Rattle.preflib_text.specs.Known.{Known, found, known_fault}
use Rattle.preflib_text.specs.Lines.{form_fault}
use Rattle.preflib_text.specs.Reading.{Coming}
use Rattle.preflib_text.proofs.Options.{or_none}

map_none : {X Y : Type 0} (f : X → Y) (o : Option X) → option_map f o ≡ None → o ≡ None
map_none f None is = refl
map_none f (Some x) is = absurd (cc is)

neither : (a b : Bool) → (a || b) ≡ false → (a ≡ false) × (b ≡ false)
neither true b is = absurd (true≢false is)
neither false b is = (refl, is)

not_there : (b : Bool) (n : ℕ) → cond b (Some n) None ≡ None → b ≡ false
not_there true n is = absurd (cc is)
not_there false n is = refl

other_none : {X : Type 0} (b : Bool) (x : X) (o : Option X) → cond b (Some x) o ≡ None → o ≡ None
other_none true x o is = absurd (cc is)
other_none false x o is = is

-- what no number passes has no position
no_position : (p : ℕ → Bool) (ns : List ℕ) → position p ns ≡ None → All (λ n. p n ≡ false) ns
no_position p ns none =
    let at = position_or_len p ns in
    let past : length ns ≤ at = ltb-false at (length ns) (not_there (nat_lt at (length ns)) at none) in
    All-from_get_or (λ n. p n ≡ false) ns 0 (λ i within. fails_before_first p ns i 0 (omega arith))

positive : (m : ℕ) → (m ≡ 0 → ⊥) → 1 ≤ m
positive m not = omega (arith, not)

-- a number that is not refused is a candidate's
candidate : (n c : ℕ) → (eqb c 0 || nat_lt n c) ≡ false → (1 ≤ c) × (c ≤ n)
candidate n c is =
    let parts = neither (eqb c 0) (nat_lt n c) is in
    (positive c (eqb-false c 0 parts.0), ltb-false n c parts.1)

pub withdrawn_are : (asked : Asked) (known : Known) (coming : Coming) (n : ℕ) → heading_fault asked known coming ≡ None
    → known.candidates ≡ Some n → All (λ c. (1 ≤ c) × (c ≤ n)) asked.withdrawn
withdrawn_are asked known coming n none is =
    let known_none : known_fault asked known (next_or_end coming) ≡ None =
    (or_none (option_and_then form_fault (slice_get coming.rest 0)) (known_fault asked known (next_or_end coming)) none).1 in
    let last : bad_withdrawn asked (unwrap_or known.candidates 0) ≡ None =
    let most = unwrap_or known.candidates 0 in
    other_none (list_any (λ c. is_none (found known.names c)) (range_with_len 1 most))
    (in_line (next_or_end coming) NameExpected 0) (bad_withdrawn asked most)
    (other_none (eqb most 0) (in_line (next_or_end coming) BadHeader 0) (cond
    (list_any (λ c. is_none (found known.names c)) (range_with_len 1 most))
    (Some (in_line (next_or_end coming) NameExpected 0)) (bad_withdrawn asked most)) known_none) in
    let nowhere = map_none (λ i. fault.Word BadWithdrawn (i + 1)) (position (λ c. eqb c 0 || nat_lt n c) asked.withdrawn)
    (sym (ap (λ o. bad_withdrawn asked (unwrap_or o 0)) is) ∙ last) in
    All-weaker (λ c. (eqb c 0 || nat_lt n c) ≡ false) (λ c. (1 ≤ c) × (c ≤ n)) (candidate n) asked.withdrawn
    (no_position (λ c. eqb c 0 || nat_lt n c) asked.withdrawn nowhere)

pub withdrawn_in : {X : Type 0} (f : ℕ → X) (names : List X) (withdrawn : List ℕ) (n : ℕ)
    → names ≡ map f (range_with_len 1 n) → All (λ c. (1 ≤ c) × (c ≤ n)) withdrawn
    → All (λ c. (1 ≤ c) × (c ≤ length names)) withdrawn
withdrawn_in f names withdrawn n is all =
    let long : n ≡ length names = sym (ap length is ∙ length-map-range_with_len f 1 n) in
    subst (λ (k : ℕ). All (λ c. (1 ≤ c) × (c ≤ k)) withdrawn) long all
