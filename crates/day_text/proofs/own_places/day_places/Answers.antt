use Rattle.std.proofs.Common.{arith}
use Rattle.day_text.proofs.OwnNumbers.{none_above_nine, none_above_less, own_at, no_day, said_yes, said_no}
use Rattle.day_text.proofs.own_places.day_places.Goals as goal

pub returns-then-branch-3 : goal.returns-then-branch-3
returns-then-branch-3 c =
    let bytes = c.args.bytes.now in
    let not_nine = said_no _ _ _ c.in_ok-has_form.ensures.has c.if-branch.false in
    let not_eight = said_no _ _ _ c.in_ok-has_form-2.ensures.has c.if-branch-2.false in
    own_at bytes 7 (omega arith) (omega arith) (said_yes _ _ _ c.in_ok-has_form-3.ensures.has c.if-branch-3.true)
    (none_above_less bytes 7 (none_above_less bytes 8 (none_above_nine bytes) not_nine) not_eight)

pub returns-then-branch-4 : goal.returns-then-branch-4
returns-then-branch-4 c =
    let bytes = c.args.bytes.now in
    let not_nine = said_no _ _ _ c.in_ok-has_form.ensures.has c.if-branch.false in
    let not_eight = said_no _ _ _ c.in_ok-has_form-2.ensures.has c.if-branch-2.false in
    let not_seven = said_no _ _ _ c.in_ok-has_form-3.ensures.has c.if-branch-3.false in
    own_at bytes 6 (omega arith) (omega arith) (said_yes _ _ _ c.in_ok-has_form-4.ensures.has c.if-branch-4.true)
    (none_above_less bytes 6 (none_above_less bytes 7 (none_above_less bytes 8 (none_above_nine bytes) not_nine) not_eight)
    not_seven)

pub returns : goal.returns
returns c =
    let bytes = c.args.bytes.now in
    let not_nine = said_no _ _ _ c.in_ok-has_form.ensures.has c.if-branch.false in
    let not_eight = said_no _ _ _ c.in_ok-has_form-2.ensures.has c.if-branch-2.false in
    let not_seven = said_no _ _ _ c.in_ok-has_form-3.ensures.has c.if-branch-3.false in
    let not_six = said_no _ _ _ c.in_ok-has_form-4.ensures.has c.if-branch-4.false in
    no_day bytes
    (none_above_less bytes 5
    (none_above_less bytes 6 (none_above_less bytes 7 (none_above_less bytes 8 (none_above_nine bytes) not_nine) not_eight)
    not_seven)
    not_six)
