use Rattle.std.proofs.Common.{◌≡◌, ℕ, ◌-◌, nat_lt, get_or, true, sym, ◌∙◌, ap, subst, arith, true≢false}
use Rattle.std.specs.Char.{is_ascii_digit}
use Rattle.std.proofs.lemmas.Bool.{lt-ltb, ltb-true}
use Rattle.input_text.specs.Scan.{is_separator}
use Rattle.input_text.specs.ShortNumber.{IsShortNumber}
use Rattle.input_text.proofs.ShortNumbers.{three_of, digit_at, ends_behind}
use Rattle.input_text.proofs.short_number.number_of_three.Goals as goal
use Rattle.input_text.proofs.short_number.number_of_three.Goals.{else-first-lt10-via-then-first-lt10+else-is_separator}
use Rattle.input_text.proofs.short_number.number_of_three.Goals.{else-first-lt10-via-else-first-lt10}

pub returns-then-is_separator-clause-found : goal.returns-then-is_separator-clause-found
returns-then-is_separator-clause-found c =
    let first : is_ascii_digit (get_or c.args.bytes.now 0 0) ≡ true =
    sym c.digit-first.ensures.is_digit ∙ lt-ltb c.digit-first.result 10 c.if-first-lt10.true in
    let bytes = c.args.bytes.now in
    subst (λ (len : ℕ). IsShortNumber bytes c.with_digit_if.result len) (sym c.short_len-len.ensures)
    (three_of bytes c.digit-first.result c.digit-second.result c.digit-third.result (nat_lt c.digit-second.result 10)
    (nat_lt c.digit-third.result 10) c.with_digit_if-value.result c.with_digit_if.result (omega arith)
    first c.digit-second.ensures.is_digit c.digit-third.ensures.is_digit
    (subst (λ (len : ℕ). is_separator (get_or bytes (len - 1) 0) ≡ true) c.short_len-len.ensures
    (sym c.is_separator.ensures ∙ c.if-is_separator.true))
    (c.digit-first.ensures.value first) (λ is. c.digit-second.ensures.value (sym c.digit-second.ensures.is_digit ∙ is))
    (λ is. c.digit-third.ensures.value (sym c.digit-third.ensures.is_digit ∙ is))
    c.with_digit_if-value.ensures c.with_digit_if.ensures)

pub returns-else-first-lt10-clause-none : goal.returns-else-first-lt10-clause-none
returns-else-first-lt10-clause-none c long n len few is = elim c.else-first-lt10.branch [
  | else-first-lt10-via-then-first-lt10+else-is_separator w ↦ true≢false
      (sym (ends_behind c.args.bytes.now n len is few (nat_lt c.digit-second.result 10)
      (nat_lt c.digit-third.result 10) c.digit-second.ensures.is_digit c.digit-third.ensures.is_digit)
      ∙ ap (λ (len : ℕ). is_separator (get_or c.args.bytes.now (len - 1) 0)) (sym c.short_len-len.ensures)
      ∙ sym w.is_separator.ensures ∙ w.if-is_separator.false)
  | else-first-lt10-via-else-first-lt10
      w ↦ absurd (omega (
        arith,
        w.if-first-lt10.false,
        ltb-true c.digit-first.result 10 (c.digit-first.ensures.is_digit ∙ digit_at c.args.bytes.now n len is 0 is.some),
      ))
]
