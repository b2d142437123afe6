use Rattle.std.proofs.Common.{◌≡◌, nat_lt, get_or, true, sym, ◌∙◌, arith, true≢false}
use Rattle.std.specs.Char.{is_ascii_digit}
use Rattle.std.proofs.lemmas.Bool.{lt-ltb, ltb-true}
use Rattle.input_text.proofs.ShortNumbers.{two_of, digit_at, two_ends_behind}
use Rattle.input_text.proofs.short_number.number_of_two.Goals as goal
use Rattle.input_text.proofs.short_number.number_of_two.Goals.{else-first-lt10-via-then-first-lt10+else-is_separator}
use Rattle.input_text.proofs.short_number.number_of_two.Goals.{else-first-lt10-via-else-first-lt10}

pub returns-then-is_separator-clause-found : goal.returns-then-is_separator-clause-found
returns-then-is_separator-clause-found c =
    let first : is_ascii_digit (get_or c.args.bytes.now 0 0) ≡ true =
    sym c.digit-first.ensures.is_digit ∙ lt-ltb c.digit-first.result 10 c.if-first-lt10.true in
    two_of c.args.bytes.now c.digit-first.result c.digit-second.result (nat_lt c.digit-second.result 10)
    c.with_digit_if.result (omega arith)
    first c.digit-second.ensures.is_digit (sym c.is_separator.ensures ∙ c.if-is_separator.true)
    (c.digit-first.ensures.value first)
    (λ is. c.digit-second.ensures.value (sym c.digit-second.ensures.is_digit ∙ is)) c.with_digit_if.ensures

pub returns-else-first-lt10-clause-none : goal.returns-else-first-lt10-clause-none
returns-else-first-lt10-clause-none c long n len few is = elim c.else-first-lt10.branch [
  | else-first-lt10-via-then-first-lt10+else-is_separator w ↦ true≢false
      (sym (two_ends_behind c.args.bytes.now n len is few (nat_lt c.digit-second.result 10) c.digit-second.ensures.is_digit)
      ∙ sym w.is_separator.ensures ∙ w.if-is_separator.false)
  | else-first-lt10-via-else-first-lt10
      w ↦ absurd (omega (
        arith,
        w.if-first-lt10.false,
        ltb-true c.digit-first.result 10 (c.digit-first.ensures.is_digit ∙ digit_at c.args.bytes.now n len is 0 is.some),
      ))
]
