use Rattle.std.proofs.Common.{◌≡◌, ℕ, ◌-◌, ◌+◌, ◌*◌, min, take, get_or, length, true, sym, ◌∙◌, ap, arith, below_more}
use Rattle.std.specs.List.{prefix_len}
use Rattle.std.specs.Char.{is_ascii_digit}
use Rattle.input_text.specs.Scan.{number}
use Rattle.input_text.proofs.Runs.{capped_twice, number_more, run_len}
use Rattle.input_text.proofs.pieces.front_number.Goals as goal

pub returns-then-not-is_ascii_digit-clause-len : goal.returns-then-not-is_ascii_digit-clause-len
returns-then-not-is_ascii_digit-clause-len c =
    run_len is_ascii_digit c.args.bytes.now c.loop-n.n (omega arith) c.loop-n.invariant.digits
    (λ inside. sym c.is_ascii_digit.ensures.value ∙ c.if-not-is_ascii_digit.true)

pub returns-then-not-is_ascii_digit-clause-number : goal.returns-then-not-is_ascii_digit-clause-number
returns-then-not-is_ascii_digit-clause-number c =
    let is =
    run_len is_ascii_digit c.args.bytes.now c.loop-n.n (omega arith) c.loop-n.invariant.digits
    (λ inside. sym c.is_ascii_digit.ensures.value ∙ c.if-not-is_ascii_digit.true) in
    c.loop-n.invariant.so_far ∙ ap (λ (n : ℕ). number (take n c.args.bytes.now)) is

pub returns-clause-len : goal.returns-clause-len
returns-clause-len c =
    run_len is_ascii_digit c.args.bytes.now (length c.args.bytes.now) (omega arith)
    (λ k inside. c.loop-n.invariant.digits k (omega arith)) (λ inside. absurd (omega arith))

pub returns-clause-number : goal.returns-clause-number
returns-clause-number c =
    let is : c.loop-n.n ≡ prefix_len is_ascii_digit c.args.bytes.now =
    run_len is_ascii_digit c.args.bytes.now c.loop-n.n (omega arith) c.loop-n.invariant.digits
    (λ inside. absurd (omega arith)) in
    c.loop-n.invariant.so_far ∙ ap (λ (n : ℕ). number (take n c.args.bytes.now)) is

pub loop-n-preserved : goal.loop-n-preserved
loop-n-preserved c =
    let n = c.loop-n.n in
    let d = get_or c.args.bytes.now n 0 - 48 in
    let digit : is_ascii_digit (get_or c.args.bytes.now n 0) ≡ true =
    sym c.is_ascii_digit.ensures.value ∙ c.if-not-is_ascii_digit.false in
    record {
      so_far =
          c.saturating_add-value.ensures ∙ ap (λ (m : ℕ). min (m + d) 4294967295) c.saturating_mul.ensures
          ∙ capped_twice c.loop-n.value d ∙ ap (λ (v : ℕ). min (v * 10 + d) 4294967295) c.loop-n.invariant.so_far
          ∙ sym (number_more c.args.bytes.now n c.loop-n-test.true digit);
      digits = below_more _ _ c.loop-n.invariant.digits digit;
    }
