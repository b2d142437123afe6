-- Fields that are short numbers.
use Rattle.std.proofs.Common.{◌≡◌, ℕ, ◌+◌, ◌-◌, ◌*◌, ◌<◌, ◌≤◌, List, [], ◌∷◌, ◌++◌, length, drop, get_or}
use Rattle.std.proofs.Common.{Bool, true, false, cond}
use Rattle.std.proofs.Common.{not, ◌==◌, ◌&&◌, nat_lt, leb, Some, None, inl, inr, refl, sym, ◌∙◌, ap, subst, arith}
use Rattle.std.proofs.lemmas.Bool.{ne_eqb, eq-eqb, le-leb, and_from}
use Rattle.std.proofs.lemmas.List.Edits.{between_none, between_more}
use Rattle.std.specs.Prelude.{slice_range}
use Rattle.table_text.specs.declared.mark.Mark.TheVariants as marks
use Rattle.table_text.specs.Reading.{begins_with_feed, mark, Plain, by_mark}
use Rattle.table_text.specs.Reader.{IsFieldAt, GoesOver, closes}
use Rattle.table_text.specs.Short.{AreDigits, IsDigit, IsFirst, is_first, number_or_none, short_number}
use Rattle.table_text.proofs.Marks.{chosen}
use Rattle.table_text.proofs.Over.{not_quoted_at, over_from_front, over_more, over_none}

-- ---- marks

inner_tests : (q p f r n l t : Bool) → q ≡ false → p ≡ false → f ≡ false → r ≡ false → l ≡ false
    → chosen q p f (r && n) (l && not t) ≡ marks.Inner
inner_tests q p f r n l t no_quote no_part no_feed no_return not_low =
    rw (no_quote, no_part, no_feed, no_return, not_low) refl

parts_tests : (q p f r w : Bool) → q ≡ false → p ≡ true → closes (chosen q p f r w) ≡ true
parts_tests q p f r w no_quote parts = rw (no_quote, parts) refl

digit_inner : (s b : ℕ) (rest : List ℕ) → IsDigit b → (IsDigit s → ⊥) → mark s b rest ≡ marks.Inner
digit_inner s b rest is apart =
    inner_tests (b == 34) (b == s) (b == 10) (b == 13) (begins_with_feed rest) (nat_lt b 32) (b == 9)
    (ne_eqb b 34 (λ e. omega (arith, e, is.least)))
    (ne_eqb b s (λ e. apart (subst IsDigit e is)))
    (ne_eqb b 10 (λ e. omega (arith, e, is.least)))
    (ne_eqb b 13 (λ e. omega (arith, e, is.least)))
    (high b is.least)
  where
    high : (b : ℕ) → 48 ≤ b → nat_lt b 32 ≡ false
    high b least = grind (arith, least)

separator_closes : (s b : ℕ) (rest : List ℕ) → (s ≡ 34 → ⊥) → b ≡ s → closes (mark s b rest) ≡ true
separator_closes s b rest no_quote same =
    parts_tests (b == 34) (b == s) (b == 10) (b == 13 && begins_with_feed rest) (nat_lt b 32 && not (b == 9))
    (ne_eqb b 34 (λ e. no_quote (sym same ∙ e))) (eq-eqb b s same)

-- ---- numbers

first_digit : (a : ℕ) → IsFirst a → IsDigit a
first_digit a is = record { least = omega (arith, is.least); most = is.most }

is_first_by : (a : ℕ) → IsFirst a → is_first a ≡ true
is_first_by a is = and_from (leb 49 a) (leb a 57) (le-leb 49 a is.least) (le-leb a 57 is.most)

one_digit : (a : ℕ) → IsFirst a → number_or_none (short_number (a ∷ [])) ≡ a - 48
one_digit a is = ap (λ (b : Bool). number_or_none (cond b (Some (a - 48)) None)) (is_first_by a is)

two_digits : (a b : ℕ) → IsFirst a → IsDigit b → number_or_none (short_number (a ∷ b ∷ [])) ≡ (a - 48) * 10 + (b - 48)
two_digits a b is next =
    ap (λ (t : Bool). number_or_none (cond t (Some ((a - 48) * 10 + (b - 48))) None))
    (and_from (is_first a) (leb 48 b && leb b 57) (is_first_by a is)
    (and_from (leb 48 b) (leb b 57) (le-leb 48 b next.least) (le-leb b 57 next.most)))

-- ---- fields

pub few_digits : (a b : ℕ) (found : ℕ × ℕ) → AreDigits a b found → found.0 ≤ 2
few_digits a b found (inl is) = omega (arith, is.digits)
few_digits a b found (inr (inl is)) = omega (arith, is.digits)
few_digits a b found (inr (inr is)) = omega (arith, is.digits)

module _ (s : ℕ) (bytes : List ℕ) (at : ℕ) (long : at + 2 < length bytes) (no_quote : s ≡ 34 → ⊥) (no_digit : IsDigit s → ⊥)
  where
    abbrev a : ℕ
    a = get_or bytes at 0

    abbrev b : ℕ
    b = get_or bytes (at + 1) 0

    abbrev Is : (stop number : ℕ) → Type 0
    Is stop number = IsFieldAt s bytes at (record { at = at; stop = stop; number = number })

    field_is : (stop number : ℕ) → at ≤ stop → stop < length bytes → (a ≡ 34 → ⊥) → get_or bytes stop 0 ≡ s
        → GoesOver s bytes Plain at stop Plain → number_or_none (short_number (slice_range bytes at stop)) ≡ number
        → Is stop number
    field_is stop number after inside unquoted ends over is = record {
      begins = refl;
      stands = record { ordered = after; inside = omega (arith, inside); number = sym is };
      parted = λ _. separator_closes s (get_or bytes stop 0) (drop (stop + 1) bytes) no_quote ends;
      over = over_from_front s bytes at (not_quoted_at bytes at (omega (arith, long)) unquoted) stop over;
    }

    one_more : (stop : ℕ) → at ≤ stop → stop < length bytes → IsDigit (get_or bytes stop 0)
        → GoesOver s bytes Plain at stop Plain → GoesOver s bytes Plain at (stop + 1) Plain
    one_more stop after inside is over =
        over_more s bytes at Plain Plain stop inside Plain after
        (ap (by_mark Plain) (digit_inner s (get_or bytes stop 0) (drop (stop + 1) bytes) is no_digit)) over

    first_is : slice_range bytes at (at + 1) ≡ a ∷ []
    first_is =
        between_more bytes at at 0 (omega arith) (omega (arith, long))
        ∙ ap (λ (l : List ℕ). l ++ a ∷ []) (between_none bytes at)

    none_there : a ≡ s → Is at 0
    none_there ends =
        field_is at 0 (omega arith) (omega (arith, long)) (λ e. no_quote (sym ends ∙ e)) ends (over_none s bytes at Plain)
        (ap (λ (l : List ℕ). number_or_none (short_number l)) (between_none bytes at))

    one_there : IsFirst a → b ≡ s → Is (at + 1) (a - 48)
    one_there is ends =
        field_is (at + 1) (a - 48) (omega arith) (omega (arith, long)) (λ e. omega (arith, e, is.least)) ends
        (one_more at (omega arith) (omega (arith, long)) (first_digit a is) (over_none s bytes at Plain))
        (ap (λ (l : List ℕ). number_or_none (short_number l)) first_is ∙ one_digit a is)

    two_there : IsFirst a → IsDigit b → get_or bytes (at + 1 + 1) 0 ≡ s → Is (at + 1 + 1) ((a - 48) * 10 + (b - 48))
    two_there is next ends =
        field_is (at + 1 + 1) ((a - 48) * 10 + (b - 48)) (omega arith) (omega (arith, long))
        (λ e. omega (arith, e, is.least)) ends
        (one_more (at + 1) (omega arith) (omega (arith, long)) next
        (one_more at (omega arith) (omega (arith, long)) (first_digit a is) (over_none s bytes at Plain)))
        (ap (λ (l : List ℕ). number_or_none (short_number l))
        (between_more bytes at (at + 1) 0 (omega arith) (omega (arith, long)) ∙ ap (λ (l : List ℕ). l ++ b ∷ []) first_is)
        ∙ two_digits a b is next)

    same_field :
        (stop stop_is number number_is : ℕ) → stop_is ≡ stop → number_is ≡ number → Is stop_is number_is
        → Is stop number
    same_field stop stop_is number number_is stops numbers is =
        subst (λ (n : ℕ). Is stop n) numbers (subst (λ (n : ℕ). Is n number_is) stops is)

    -- what digits and a separator after them are
    pub digits_are : (found : ℕ × ℕ) → AreDigits a b found → get_or bytes (at + found.0) 0 ≡ s → Is (at + found.0) found.1
    digits_are found (inl is) ends =
        let stops : at ≡ at + found.0 = omega (arith, is.digits) in
        same_field (at + found.0) at found.1 0 stops (sym is.number)
        (none_there (ap (λ (n : ℕ). get_or bytes n 0) stops ∙ ends))
    digits_are found (inr (inl is)) ends =
        let stops : at + 1 ≡ at + found.0 = omega (arith, is.digits) in
        same_field (at + found.0) (at + 1) found.1 (a - 48) stops (sym is.number)
        (one_there is.first (ap (λ (n : ℕ). get_or bytes n 0) stops ∙ ends))
    digits_are found (inr (inr is)) ends =
        let stops : at + 1 + 1 ≡ at + found.0 = omega (arith, is.digits) in
        same_field (at + found.0) (at + 1 + 1) found.1 ((a - 48) * 10 + (b - 48)) stops (sym is.number)
        (two_there is.first is.second (ap (λ (n : ℕ). get_or bytes n 0) stops ∙ ends))
