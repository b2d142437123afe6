-- One to three digits before a separator.
use Rattle.std.proofs.Common.{◌≡◌, ℕ, ◌+◌, ◌-◌, ◌*◌, ◌<◌, ◌≤◌, min, List, length, take, get_or, Bool, true}
use Rattle.std.proofs.Common.{false, cond, ◌&&◌, zero, suc, refl, sym, ◌∙◌, ap, subst, arith, below_more}
use mir.Val.{bool_byte}
use Rattle.std.specs.List.{prefix_len, take_while}
use Rattle.std.specs.Char.{is_ascii_digit}
use Rattle.std.proofs.lemmas.List.Sums.{prefix_len_passes}
use Rattle.input_text.specs.Scan.{number, is_separator}
use Rattle.input_text.specs.ShortNumber.{IsShortNumber}
use Rattle.input_text.proofs.Runs.{number_more, run_len}

one_digit : (xs : List ℕ) → 0 < length xs → is_ascii_digit (get_or xs 0 0) ≡ true → number (take 1 xs) ≡ get_or xs 0 0 - 48
one_digit xs inside a = number_more xs 0 inside a ∙ grind arith

two_digits :
    (xs : List ℕ) → 1 < length xs → is_ascii_digit (get_or xs 0 0) ≡ true → is_ascii_digit (get_or xs 1 0) ≡ true
    → number (take 2 xs) ≡ (get_or xs 0 0 - 48) * 10 + (get_or xs 1 0 - 48)
two_digits xs inside a b =
    number_more xs 1 inside b ∙ ap (λ (v : ℕ). min (v * 10 + (get_or xs 1 0 - 48)) 4294967295)
    (one_digit xs (omega (arith, inside)) a) ∙ grind arith

three_digits :
    (xs : List ℕ) → 2 < length xs → is_ascii_digit (get_or xs 0 0) ≡ true → is_ascii_digit (get_or xs 1 0) ≡ true
    → is_ascii_digit (get_or xs 2 0) ≡ true → number (take 3 xs)
    ≡ ((get_or xs 0 0 - 48) * 10 + (get_or xs 1 0 - 48)) * 10 + (get_or xs 2 0 - 48)
three_digits xs inside a b c =
    number_more xs 2 inside c ∙ ap (λ (v : ℕ). min (v * 10 + (get_or xs 2 0 - 48)) 4294967295)
    (two_digits xs (omega (arith, inside)) a b) ∙ grind arith

below_one : (P : ℕ → Type 0) → P 0 → (k : ℕ) → k < 1 → P k
below_one P zeroth k less = let is : 0 ≡ k = omega (arith, less) in subst P is zeroth

below_two : (P : ℕ → Type 0) → P 0 → P 1 → (k : ℕ) → k < 2 → P k
below_two P zeroth first = below_more P 1 (below_one P zeroth) first

below_three : (P : ℕ → Type 0) → P 0 → P 1 → P 2 → (k : ℕ) → k < 3 → P k
below_three P zeroth first second = below_more P 2 (below_two P zeroth first) second

-- a separator is no digit
no_digit : (b : ℕ) → is_separator b ≡ true → is_ascii_digit b ≡ false
no_digit b ends = grind arith

module _ (xs : List ℕ) (long : 2 < length xs) (first : is_ascii_digit (get_or xs 0 0) ≡ true) where
  abbrev IsDigitAt : ℕ → Type 0
  IsDigitAt k = is_ascii_digit (get_or xs k 0) ≡ true

  up_to :
      (n : ℕ) → n ≤ 3 → ((k : ℕ) → k < n → IsDigitAt k) → is_separator (get_or xs n 0) ≡ true
      → n ≡ prefix_len is_ascii_digit xs
  up_to n few digits ends =
      run_len is_ascii_digit xs n (omega (arith, few, long)) digits (λ inside. no_digit (get_or xs n 0) ends)

  -- how many digits there are, by which of the second and third byte are digits
  three_run :
      (b c : Bool) → b ≡ is_ascii_digit (get_or xs 1 0) → c ≡ is_ascii_digit (get_or xs 2 0)
      → is_separator (get_or xs (1 + bool_byte b + bool_byte (b && c)) 0) ≡ true
      → 1 + bool_byte b + bool_byte (b && c) ≡ prefix_len is_ascii_digit xs
  three_run true true b_is c_is ends = up_to 3 (omega arith) (below_three IsDigitAt first (sym b_is) (sym c_is)) ends
  three_run true false b_is c_is ends = up_to 2 (omega arith) (below_two IsDigitAt first (sym b_is)) ends
  three_run false c b_is c_is ends = up_to 1 (omega arith) (below_one IsDigitAt first) ends

  three_value :
      (b c : Bool) → b ≡ is_ascii_digit (get_or xs 1 0) → c ≡ is_ascii_digit (get_or xs 2 0)
      → is_separator (get_or xs (1 + bool_byte b + bool_byte (b && c)) 0) ≡ true
      → (two three : ℕ) → two ≡ cond b ((get_or xs 0 0 - 48) * 10 + (get_or xs 1 0 - 48)) (get_or xs 0 0 - 48)
      → three ≡ cond (b && c) (two * 10 + (get_or xs 2 0 - 48)) two → three ≡ number (take_while is_ascii_digit xs)
  three_value true true b_is c_is ends two three two_is three_is =
      three_is ∙ ap (λ (v : ℕ). v * 10 + (get_or xs 2 0 - 48)) two_is
      ∙ sym (three_digits xs (omega (arith, long)) first (sym b_is) (sym c_is))
      ∙ ap (λ (n : ℕ). number (take n xs)) (three_run true true b_is c_is ends)
  three_value true false b_is c_is ends two three two_is three_is =
      three_is ∙ two_is ∙ sym (two_digits xs (omega (arith, long)) first (sym b_is))
      ∙ ap (λ (n : ℕ). number (take n xs)) (three_run true false b_is c_is ends)
  three_value false c b_is c_is ends two three two_is three_is =
      three_is ∙ two_is ∙ sym (one_digit xs (omega (arith, long)) first)
      ∙ ap (λ (n : ℕ). number (take n xs)) (three_run false c b_is c_is ends)

  -- the same where the third byte was not looked at
  two_run :
      (b : Bool) → b ≡ is_ascii_digit (get_or xs 1 0) → is_separator (get_or xs (1 + bool_byte b) 0) ≡ true
      → 1 + bool_byte b ≡ prefix_len is_ascii_digit xs
  two_run true b_is ends = up_to 2 (omega arith) (below_two IsDigitAt first (sym b_is)) ends
  two_run false b_is ends = up_to 1 (omega arith) (below_one IsDigitAt first) ends

  two_value : (b : Bool) → b ≡ is_ascii_digit (get_or xs 1 0) → is_separator (get_or xs (1 + bool_byte b) 0) ≡ true
      → (two : ℕ) → two ≡ cond b ((get_or xs 0 0 - 48) * 10 + (get_or xs 1 0 - 48)) (get_or xs 0 0 - 48)
      → two ≡ number (take_while is_ascii_digit xs)
  two_value true b_is ends two two_is =
      two_is ∙ sym (two_digits xs (omega (arith, long)) first (sym b_is))
      ∙ ap (λ (n : ℕ). number (take n xs)) (two_run true b_is ends)
  two_value false b_is ends two two_is =
      two_is ∙ sym (one_digit xs (omega (arith, long)) first)
      ∙ ap (λ (n : ℕ). number (take n xs)) (two_run false b_is ends)

bool_byte_le : (b : Bool) → bool_byte b ≤ 1
bool_byte_le true = omega arith
bool_byte_le false = omega arith

-- what the code has looked at is a number
pub three_are :
    (bytes : List ℕ) (b c : Bool) (two three : ℕ) → 3 < length bytes → is_ascii_digit (get_or bytes 0 0) ≡ true
    → b ≡ is_ascii_digit (get_or bytes 1 0) → c ≡ is_ascii_digit (get_or bytes 2 0)
    → is_separator (get_or bytes (2 + bool_byte b + bool_byte (b && c) - 1) 0) ≡ true
    → two ≡ cond b ((get_or bytes 0 0 - 48) * 10 + (get_or bytes 1 0 - 48)) (get_or bytes 0 0 - 48)
    → three ≡ cond (b && c) (two * 10 + (get_or bytes 2 0 - 48)) two
    → IsShortNumber bytes three (2 + bool_byte b + bool_byte (b && c))
three_are bytes b c two three long first b_is c_is ends two_is three_is =
    let digits = 1 + bool_byte b + bool_byte (b && c) in
    let last : 2 + bool_byte b + bool_byte (b && c) - 1 ≡ digits = omega arith in
    let ends_at : is_separator (get_or bytes digits 0) ≡ true =
    ap (λ (k : ℕ). is_separator (get_or bytes k 0)) (sym last) ∙ ends in
    record {
      inside = omega (arith, long, bool_byte_le b, bool_byte_le (b && c));
      some = omega arith;
      run = omega (arith, three_run bytes (omega (arith, long)) first b c b_is c_is ends_at);
      value = three_value bytes (omega (arith, long)) first b c b_is c_is ends_at two three two_is three_is;
      ends = ends;
    }

-- the same of what the bytes stand for as digits
pub three_of :
    (bytes : List ℕ) (one other last : ℕ) (b c : Bool) (two three : ℕ) → 3 < length bytes
    → is_ascii_digit (get_or bytes 0 0) ≡ true → b ≡ is_ascii_digit (get_or bytes 1 0)
    → c ≡ is_ascii_digit (get_or bytes 2 0)
    → is_separator (get_or bytes (2 + bool_byte b + bool_byte (b && c) - 1) 0) ≡ true
    → one ≡ get_or bytes 0 0 - 48 → (b ≡ true → other ≡ get_or bytes 1 0 - 48) → (c ≡ true → last ≡ get_or bytes 2 0 - 48)
    → two ≡ cond b (one * 10 + other) one → three ≡ cond (b && c) (two * 10 + last) two
    → IsShortNumber bytes three (2 + bool_byte b + bool_byte (b && c))
three_of bytes one other last true true two three long first b_is c_is ends one_is other_is last_is two_is three_is =
    three_are bytes true true two three long first b_is c_is ends (two_is ∙ rw (one_is, other_is refl) refl)
    (three_is ∙ rw (last_is refl) refl)
three_of bytes one other last true false two three long first b_is c_is ends one_is other_is last_is two_is three_is =
    three_are bytes true false two three long first b_is c_is ends (two_is ∙ rw (one_is, other_is refl) refl) three_is
three_of bytes one other last false c two three long first b_is c_is ends one_is other_is last_is two_is three_is =
    three_are bytes false c two three long first b_is c_is ends (two_is ∙ one_is) three_is

pub two_are :
    (bytes : List ℕ) (b : Bool) (two : ℕ) → 3 < length bytes → is_ascii_digit (get_or bytes 0 0) ≡ true
    → b ≡ is_ascii_digit (get_or bytes 1 0)
    → is_separator (get_or bytes (2 + bool_byte b - 1) 0) ≡ true
    → two ≡ cond b ((get_or bytes 0 0 - 48) * 10 + (get_or bytes 1 0 - 48)) (get_or bytes 0 0 - 48)
    → IsShortNumber bytes two (2 + bool_byte b)
two_are bytes b two long first b_is ends two_is =
    let last : 2 + bool_byte b - 1 ≡ 1 + bool_byte b = omega arith in
    let ends_at : is_separator (get_or bytes (1 + bool_byte b) 0) ≡ true =
    ap (λ (k : ℕ). is_separator (get_or bytes k 0)) (sym last) ∙ ends in
    record {
      inside = omega (arith, long, bool_byte_le b);
      some = omega arith;
      run = omega (arith, two_run bytes (omega (arith, long)) first b b_is ends_at);
      value = two_value bytes (omega (arith, long)) first b b_is ends_at two two_is;
      ends = ends;
    }

pub two_of :
    (bytes : List ℕ) (one other : ℕ) (b : Bool) (two : ℕ) → 3 < length bytes → is_ascii_digit (get_or bytes 0 0) ≡ true
    → b ≡ is_ascii_digit (get_or bytes 1 0)
    → is_separator (get_or bytes (2 + bool_byte b - 1) 0) ≡ true → one ≡ get_or bytes 0 0 - 48
    → (b ≡ true → other ≡ get_or bytes 1 0 - 48)
    → two ≡ cond b (one * 10 + other) one → IsShortNumber bytes two (2 + bool_byte b)
two_of bytes one other true two long first b_is ends one_is other_is two_is =
    two_are bytes true two long first b_is ends (two_is ∙ rw (one_is, other_is refl) refl)
two_of bytes one other false two long first b_is ends one_is other_is two_is =
    two_are bytes false two long first b_is ends (two_is ∙ one_is)

-- how many digits there are, by which of them the code has looked at
seen_digits :
    (b c : Bool) (digits : ℕ) → 0 < digits → digits ≤ 3 → (1 < digits → b ≡ true) → (digits ≡ 1 → b ≡ false)
    → (2 < digits → c ≡ true) → (digits ≡ 2 → c ≡ false) → digits ≡ 1 + bool_byte b + bool_byte (b && c)
seen_digits b c zero some few b_yes b_no c_yes c_no = absurd (omega (arith, some))
seen_digits b c (suc zero) some few b_yes b_no c_yes c_no = rw (b_no refl) refl
seen_digits b c (suc (suc zero)) some few b_yes b_no c_yes c_no = rw (b_yes (omega arith), c_no refl) refl
seen_digits b c (suc (suc (suc zero))) some few b_yes b_no c_yes c_no = rw (b_yes (omega arith), c_yes (omega arith)) refl
seen_digits b c (suc (suc (suc (suc more)))) some few b_yes b_no c_yes c_no = absurd (omega (arith, few))

and_false : (b : Bool) → bool_byte (b && false) ≡ 0
and_false true = refl
and_false false = refl

-- A number of at most three digits is found.
module _ (bytes : List ℕ) (n len : ℕ) (is : IsShortNumber bytes n len) where
  pub digit_at : (k : ℕ) → 1 + k < len → is_ascii_digit (get_or bytes k 0) ≡ true
  digit_at k less = prefix_len_passes is_ascii_digit bytes k 0 (omega (arith, less, is.run))

  pub ends_behind :
      len ≤ 4 → (b c : Bool) → b ≡ is_ascii_digit (get_or bytes 1 0) → c ≡ is_ascii_digit (get_or bytes 2 0)
      → is_separator (get_or bytes (2 + bool_byte b + bool_byte (b && c) - 1) 0) ≡ true
  ends_behind few b c b_is c_is =
      let digits = len - 1 in
      let IsNoDigitAt : ℕ → Type 0 = λ d. is_ascii_digit (get_or bytes d 0) ≡ false in
      let behind : IsNoDigitAt digits = no_digit (get_or bytes digits 0) is.ends in
      let run =
      seen_digits b c digits (omega (arith, is.some)) (omega (arith, few)) (λ more. b_is ∙ digit_at 1 (omega (arith, more)))
      (λ one. b_is ∙ subst IsNoDigitAt one behind)
      (λ more. c_is ∙ digit_at 2 (omega (arith, more))) (λ two. c_is ∙ subst IsNoDigitAt two behind) in
      let last : digits ≡ 2 + bool_byte b + bool_byte (b && c) - 1 = omega (arith, run) in
      subst (λ (d : ℕ). is_separator (get_or bytes d 0) ≡ true) last is.ends

  pub two_ends_behind :
      len ≤ 3 → (b : Bool) → b ≡ is_ascii_digit (get_or bytes 1 0)
      → is_separator (get_or bytes (2 + bool_byte b - 1) 0) ≡ true
  two_ends_behind few b b_is =
      let digits = len - 1 in
      let behind : is_ascii_digit (get_or bytes digits 0) ≡ false = no_digit (get_or bytes digits 0) is.ends in
      let run =
      seen_digits b false digits (omega (arith, is.some)) (omega (arith, few))
      (λ more. b_is ∙ digit_at 1 (omega (arith, more)))
      (λ one. b_is ∙ subst (λ (d : ℕ). is_ascii_digit (get_or bytes d 0) ≡ false) one behind)
      (λ more. absurd (omega (arith, more, few))) (λ two. refl) in
      let last : digits ≡ 2 + bool_byte b - 1 = omega (arith, run, and_false b) in
      subst (λ (d : ℕ). is_separator (get_or bytes d 0) ≡ true) last is.ends
