-- The parts of a line from a place on.
use Rattle.std.proofs.Common.{◌≡◌, ℕ, suc, ◌+◌, ◌-◌, ◌<◌, ◌≤◌, Bool, true, false, cond, eqb, ◌&&◌, List, []}
use Rattle.std.proofs.Common.{◌∷◌, ◌++◌, length}
use Rattle.std.proofs.Common.{take, drop, get_or, Option, Some, None, refl, ap, sym, ◌∙◌, subst, arith}
use Rattle.std.specs.List.{filter_map, cons_option, range_with_len, prefix_len, take_while, last_or}
use Rattle.std.specs.List.{slice_index, slice_range}
use Rattle.std.specs.Option.{option_map, option_map_or}
use Rattle.std.proofs.lemmas.List.{length-drop, length-take-le, drop-drop, drop_all, drop_more, take_more}
use Rattle.std.proofs.lemmas.List.{get_or-drop, get_or_past}
use Rattle.preflib_text.specs.Parts.{Part, Number, Colon, Comma, Open, Close, Meta, Wrong, End, Placed, sign}
use Rattle.preflib_text.specs.Parts.{ends_in_digit, part_between, part_at}
use Rattle.preflib_text.specs.Reading.{kept, behind_part, parts_from, IsFresh}
use Rattle.preflib_text.specs.Texts.{is_blank, is_digit, value}

if_true : {X : Type 0} (b : Bool) (x y : X) → b ≡ true → cond b x y ≡ x
if_true true x y is = refl
if_true false x y is = absurd (cc is)

if_false : {X : Type 0} (b : Bool) (x y : X) → b ≡ false → cond b x y ≡ y
if_false true x y is = absurd (cc is)
if_false false x y is = refl

-- a byte is no blank where it is a digit, and no digit where it is a blank
digit_not_blank : (b : ℕ) → is_digit b ≡ true → is_blank b ≡ false
digit_not_blank b is = grind arith

blank_not_digit : (b : ℕ) → is_blank b ≡ true → is_digit b ≡ false
blank_not_digit b is = grind arith

pub last_push : {X : Type 0} (o : Option X) (xs : List X) (y : X) → last_or o (xs ++ y ∷ []) ≡ Some y
last_push o [] y = refl
last_push o (x ∷ xs) y = last_push (Some x) xs y

module _ (bytes : List ℕ) where
  abbrev place : ℕ → Part → Placed
  place i part = record { at = i; part = part }

  one_place : (i m n : ℕ) → m ≡ suc n → filter_map (part_at bytes) (range_with_len i m)
      ≡ cons_option (part_at bytes i) (filter_map (part_at bytes) (range_with_len (i + 1) n))
  one_place i m n is = ap (λ k. filter_map (part_at bytes) (range_with_len i k)) is

  -- the part at a place, and those after it
  step : (i : ℕ) → i ≤ length bytes → parts_from bytes i ≡ cons_option (part_at bytes i) (parts_from bytes (i + 1))
  step i inside =
      one_place i (length bytes + 1 - i) (length bytes - i) (omega arith)
      ∙ ap (λ k. cons_option (part_at bytes i) (filter_map (part_at bytes) (range_with_len (i + 1) k))) (omega arith)

  -- the end is the last part
  pub at_end : (i : ℕ) → i ≡ length bytes → parts_from bytes i ≡ place i End ∷ []
  at_end i is =
      let none : length bytes + 1 - (i + 1) ≡ 0 = omega (arith, is) in
      step i (omega (arith, is))
      ∙ ap (λ rest. cons_option (option_map (place i) (part_between (take i bytes) rest)) (parts_from bytes (i + 1)))
      (drop_all i bytes (omega (arith, is)))
      ∙ ap (λ k. place i End ∷ filter_map (part_at bytes) (range_with_len (i + 1) k)) none

  module _ (i b : ℕ) (rest : List ℕ) (is : drop i bytes ≡ b ∷ rest) where
    pub inside : i < length bytes
    inside =
        let short : length bytes - i ≡ length (b ∷ rest) = sym (length-drop i bytes) ∙ ap length is in omega (arith, short)

    pub behind : drop (i + 1) bytes ≡ rest
    behind = sym (drop-drop 1 i bytes) ∙ ap (drop 1) is

    pub byte : slice_index bytes i ≡ b
    byte =
        ap (λ k. get_or bytes k 0) (omega arith) ∙ sym (get_or-drop i bytes 0 0) ∙ ap (λ xs. get_or xs 0 0) is

    -- what is read after the byte ends in it
    pub ends_more : ends_in_digit (take (i + 1) bytes) ≡ is_digit b
    ends_more =
        ap ends_in_digit (take_more bytes i 0 inside)
        ∙ ap (λ o. option_map_or is_digit o false) (last_push None (take i bytes) (get_or bytes i 0))
        ∙ ap is_digit byte

    -- the parts, where a part begins there or none does
    begun : (o : Option Part) → part_between (take i bytes) (b ∷ rest) ≡ o
        → parts_from bytes i ≡ cons_option (option_map (place i) o) (parts_from bytes (i + 1))
    begun o part =
        let bound = inside in
        step i (omega (arith, bound))
        ∙ ap (λ xs. cons_option (option_map (place i) (part_between (take i bytes) xs)) (parts_from bytes (i + 1))) is
        ∙ ap (λ p. cons_option (option_map (place i) p) (parts_from bytes (i + 1))) part

    pub over_blank : is_blank b ≡ true → parts_from bytes i ≡ parts_from bytes (i + 1)
    over_blank blank = begun None (if_true (is_blank b) None _ blank)

    over_digit : is_digit b ≡ true → ends_in_digit (take i bytes) ≡ true → parts_from bytes i ≡ parts_from bytes (i + 1)
    over_digit digit ends =
        begun None
        (if_false (is_blank b) None _ (digit_not_blank b digit) ∙ if_true (is_digit b) _ _ digit
        ∙ if_true (ends_in_digit (take i bytes)) None _ ends)

    at_digit : is_digit b ≡ true → ends_in_digit (take i bytes) ≡ false
        → parts_from bytes i ≡ place i (Number (value (take_while is_digit (b ∷ rest)))) ∷ parts_from bytes (i + 1)
    at_digit digit ends =
        begun (Some (Number (value (take_while is_digit (b ∷ rest)))))
        (if_false (is_blank b) None _ (digit_not_blank b digit) ∙ if_true (is_digit b) _ _ digit
        ∙ if_false (ends_in_digit (take i bytes)) None _ ends)

    pub at_sign : is_blank b ≡ false → is_digit b ≡ false
        → parts_from bytes i ≡ place i (sign i b) ∷ parts_from bytes (i + 1)
    at_sign blank digit =
        let bound = inside in
        begun (Some (sign i b))
        (if_false (is_blank b) None _ blank ∙ if_false (is_digit b) _ _ digit
        ∙ ap (λ k. Some (sign k b)) (length-take-le i bytes (omega (arith, bound))))

  -- the same place, further on by one
  further : (i n : ℕ) → parts_from bytes (i + 1 + n) ≡ parts_from bytes (i + (1 + n))
  further i n = ap (parts_from bytes) (omega arith)

  over_blanks : (rest : List ℕ) (i : ℕ) → drop i bytes ≡ rest
      → parts_from bytes i ≡ parts_from bytes (i + prefix_len is_blank rest)
  over_blanks [] i is = ap (parts_from bytes) (omega arith)
  over_blanks (b ∷ rest) i is =
      let n = prefix_len is_blank rest in
      elim (is_blank b) as (λ t. is_blank b ≡ t → parts_from bytes i ≡ parts_from bytes (i + cond t (1 + n) 0)) [
        | true ↦ λ blank.
            over_blank i b rest is blank ∙ over_blanks rest (i + 1) (behind i b rest is) ∙ further i n
        | false ↦ λ blank. ap (parts_from bytes) (omega arith)
      ] refl

  over_digits : (rest : List ℕ) (i : ℕ) → drop i bytes ≡ rest → ends_in_digit (take i bytes) ≡ true
      → parts_from bytes i ≡ parts_from bytes (i + prefix_len is_digit rest)
  over_digits [] i is ends = ap (parts_from bytes) (omega arith)
  over_digits (b ∷ rest) i is ends =
      let n = prefix_len is_digit rest in
      elim (is_digit b) as (λ t. is_digit b ≡ t → parts_from bytes i ≡ parts_from bytes (i + cond t (1 + n) 0)) [
        | true ↦ λ digit.
            over_digit i b rest is digit ends
            ∙ over_digits rest (i + 1) (behind i b rest is) (ends_more i b rest is ∙ digit) ∙ further i n
        | false ↦ λ digit. ap (parts_from bytes) (omega arith)
      ] refl

  -- after the bytes that pass a test stands none that does
  passed : (p : ℕ → Bool) → p 0 ≡ false → (rest : List ℕ) (i : ℕ) → drop i bytes ≡ rest
      → p (slice_index bytes (i + prefix_len p rest)) ≡ false
  passed p none [] i is =
      let short : length bytes - i ≡ 0 = sym (length-drop i bytes) ∙ ap length is in
      ap p (get_or_past bytes (i + 0) 0 (omega (arith, short))) ∙ none
  passed p none (b ∷ rest) i is =
      let n = prefix_len p rest in
      elim (p b) as (λ t. p b ≡ t → p (slice_index bytes (i + cond t (1 + n) 0)) ≡ false) [
        | true ↦ λ yes.
            ap (λ k. p (slice_index bytes k)) (omega arith) ∙ passed p none rest (i + 1) (behind i b rest is)
        | false ↦ λ no. ap (λ k. p (slice_index bytes k)) (omega arith) ∙ ap p (byte i b rest is) ∙ no
      ] refl

  fresh_behind : (rest : List ℕ) (i : ℕ) → drop i bytes ≡ rest → IsFresh bytes i
      → IsFresh bytes (i + prefix_len is_blank rest)
  fresh_behind [] i is fresh = subst (IsFresh bytes) (omega arith) fresh
  fresh_behind (b ∷ rest) i is fresh =
      let n = prefix_len is_blank rest in
      elim (is_blank b) as (λ t. is_blank b ≡ t → IsFresh bytes (i + cond t (1 + n) 0)) [
        | true ↦ λ blank.
            subst (IsFresh bytes) (omega arith)
            (fresh_behind rest (i + 1) (behind i b rest is)
            (λ digit. ends_more i b rest is ∙ blank_not_digit b blank))
        | false ↦ λ blank. subst (IsFresh bytes) (omega arith) fresh
      ] refl

  -- ---- a part from a place on

  pub skipped : (from at : ℕ) → at ≡ from + prefix_len is_blank (drop from bytes)
      → parts_from bytes from ≡ parts_from bytes at
  skipped from at is = over_blanks (drop from bytes) from refl ∙ ap (parts_from bytes) (sym is)

  pub still_fresh : (from at : ℕ) → at ≡ from + prefix_len is_blank (drop from bytes) → IsFresh bytes from
      → IsFresh bytes at
  still_fresh from at is fresh = subst (IsFresh bytes) (sym is) (fresh_behind (drop from bytes) from refl fresh)

  pub not_blank : (from at : ℕ) → at ≡ from + prefix_len is_blank (drop from bytes)
      → is_blank (slice_index bytes at) ≡ false
  not_blank from at is =
      ap (λ k. is_blank (slice_index bytes k)) is ∙ passed is_blank refl (drop from bytes) from refl

  pub not_digit : (at stop : ℕ) → stop ≡ at + prefix_len is_digit (drop at bytes)
      → is_digit (slice_index bytes stop) ≡ false
  not_digit at stop is =
      ap (λ k. is_digit (slice_index bytes k)) is ∙ passed is_digit refl (drop at bytes) at refl

  pub number_at : (at stop : ℕ) → at < length bytes → is_digit (slice_index bytes at) ≡ true
      → ends_in_digit (take at bytes) ≡ false → stop ≡ at + prefix_len is_digit (drop at bytes)
      → parts_from bytes at ≡ place at (Number (value (slice_range bytes at stop))) ∷ parts_from bytes stop
  number_at at stop inside digit ends is =
      let b = slice_index bytes at in
      let rest = drop (at + 1) bytes in
      let front = drop_more bytes at 0 inside in
      let n = prefix_len is_digit rest in
      let run : prefix_len is_digit (drop at bytes) ≡ 1 + n =
      ap (prefix_len is_digit) front ∙ if_true (is_digit b) (1 + n) 0 digit in
      let digits : take_while is_digit (b ∷ rest) ≡ slice_range bytes at stop =
      ap (λ xs. take (prefix_len is_digit xs) xs) (sym front)
      ∙ ap (λ k. take k (drop at bytes)) (omega (arith, is)) in
      at_digit at b rest front digit ends
      ∙ ap (λ xs. place at (Number (value xs)) ∷ parts_from bytes (at + 1)) digits
      ∙ ap (λ xs. place at (Number (value (slice_range bytes at stop))) ∷ xs)
      (over_digits rest (at + 1) refl (ends_more at b rest front ∙ digit)
      ∙ ap (parts_from bytes) (omega (arith, is, run)))

  pub sign_at : (at : ℕ) → at < length bytes → is_blank (slice_index bytes at) ≡ false
      → is_digit (slice_index bytes at) ≡ false
      → parts_from bytes at ≡ place at (sign at (slice_index bytes at)) ∷ parts_from bytes (at + 1)
  sign_at at inside blank digit =
      at_sign at (slice_index bytes at) (drop (at + 1) bytes) (drop_more bytes at 0 inside) blank digit

  -- a sign is no end
  behind_one : (stop : ℕ) (p q r s t : Bool)
      → behind_part bytes (kept (cond p Colon (cond q Comma (cond r Open (cond s Close (cond t Meta Wrong)))))) stop
      ≡ parts_from bytes stop
  behind_one stop true q r s t = refl
  behind_one stop false true r s t = refl
  behind_one stop false false true s t = refl
  behind_one stop false false false true t = refl
  behind_one stop false false false false true = refl
  behind_one stop false false false false false = refl

  pub behind_sign : (at b stop : ℕ) → behind_part bytes (kept (sign at b)) stop ≡ parts_from bytes stop
  behind_sign at b stop = behind_one stop (eqb b 58) (eqb b 44) (eqb b 123) (eqb b 125) (eqb b 35 && eqb at 0)

  pub fresh_sign : (at : ℕ) → at < length bytes → is_digit (slice_index bytes at) ≡ false
      → IsFresh bytes (at + 1)
  fresh_sign at inside digit next =
      ends_more at (slice_index bytes at) (drop (at + 1) bytes) (drop_more bytes at 0 inside) ∙ digit
