use Rattle.std.proofs.Common.{◌≡◌, ◌∙◌, true, get_or, arith, sym}
use Rattle.std.specs.Char.{is_ascii_digit}
use Rattle.std.proofs.lemmas.Int.Digits.{digits_value_more, digits_more}
use Rattle.std.proofs.lemmas.Bool.Decides.{nat_tests}
use Rattle.std.proofs.lemmas.List.{take_all}
use Rattle.meek_words.proofs.DigitLemmas.{front_below, pass_from_digits, digit_below_ten, digit_value-minus}
use Rattle.meek_words.proofs.numeral.numeral.Goals as goal

pub overflow_mul-number : goal.overflow_mul-number
overflow_mul-number c =
    let below = front_below c.args.word.now c.loop-digit.digit-index c.loop-digit.invariant.digits (omega arith) in
    omega (arith, c.loop-digit.invariant.number)

pub overflow_add-number : goal.overflow_add-number
overflow_add-number c =
    let below = front_below c.args.word.now c.loop-digit.digit-index c.loop-digit.invariant.digits (omega arith) in
    omega (arith, c.loop-digit.invariant.number, c.type_inv.word c.loop-digit.digit-index)

pub loop-digit-preserved : goal.loop-digit-preserved
loop-digit-preserved c =
    let word = c.args.word.now in
    let i = c.loop-digit.digit-index in
    let is_digit : is_ascii_digit (get_or word i 0) ≡ true =
    sym (c.is_ascii_digit.ensures.value) ∙ c.if-not-is_ascii_digit.false in
    record {
      digits =
          digits_more 10 word i c.loop-digit-test.true c.loop-digit.invariant.digits
          (digit_below_ten (get_or word i 0) is_digit);
      number =
          omega (
            arith,
            c.loop-digit.invariant.number,
            digits_value_more 10 word i c.loop-digit-test.true,
            digit_value-minus (get_or word i 0) is_digit,
          );
    }

pub returns : goal.returns
returns c =
    let word = c.args.word.now in
    let whole = take_all c.loop-digit.digit-index word c.loop-digit-test.false in
    let digits = rw whole at c.loop-digit.invariant.digits in (
      record { some = grind (arith, nat_tests); short = omega arith; digits = pass_from_digits word digits },
      rw whole at c.loop-digit.invariant.number,
    )
