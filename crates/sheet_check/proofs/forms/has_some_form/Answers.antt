use Rattle.std.proofs.Common.{arith}
use Rattle.sheet_check.proofs.FormLemmas.{has_one, malformed, said_yes, said_no}
use Rattle.sheet_check.proofs.forms.has_some_form.Goals as goal

pub returns-then-branch : goal.returns-then-branch
returns-then-branch c =
    has_one c.args.bytes.now 9 (omega arith) (omega arith) (said_yes _ _ _ c.in_ok-has_form.ensures c.if-branch.true)

pub returns-then-branch-2 : goal.returns-then-branch-2
returns-then-branch-2 c =
    has_one c.args.bytes.now 8 (omega arith) (omega arith) (said_yes _ _ _ c.in_ok-has_form-2.ensures c.if-branch-2.true)

pub returns-then-branch-3 : goal.returns-then-branch-3
returns-then-branch-3 c =
    has_one c.args.bytes.now 7 (omega arith) (omega arith) (said_yes _ _ _ c.in_ok-has_form-3.ensures c.if-branch-3.true)

pub returns-then-branch-4 : goal.returns-then-branch-4
returns-then-branch-4 c =
    has_one c.args.bytes.now 6 (omega arith) (omega arith) (said_yes _ _ _ c.in_ok-has_form-4.ensures c.if-branch-4.true)

pub returns : goal.returns
returns c =
    malformed c.args.bytes.now (said_no _ _ _ c.in_ok-has_form.ensures c.if-branch.false)
    (said_no _ _ _ c.in_ok-has_form-2.ensures c.if-branch-2.false)
    (said_no _ _ _ c.in_ok-has_form-3.ensures c.if-branch-3.false)
    (said_no _ _ _ c.in_ok-has_form-4.ensures c.if-branch-4.false)
