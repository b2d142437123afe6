use Rattle.std.proofs.Common.{length, refl, sym, ◌∙◌, rules}
use Rattle.sheet_reader.proofs.Digits.{false-ne_true}
use Rattle.sheet_reader.proofs.Decisions.{no_step}
use Rattle.sheet_reader.proofs.RowLines.{elected_line, iterate_line, step_line_is}
use Rattle.sheet_reader.proofs.decision.read_step.Goals as goal

pub returns-then-is_same-clause-read : goal.returns-then-is_same-clause-read
returns-then-is_same-clause-read c = (search rules, c.if-is_same.ensures.0 refl ∙ sym (elected_line _))

pub returns-then-is_same-2-clause-read : goal.returns-then-is_same-2-clause-read
returns-then-is_same-2-clause-read c = (search rules, c.if-is_same-2.ensures.0 refl ∙ sym (iterate_line _))

pub returns-in-Some-clause-read : goal.returns-in-Some-clause-read
returns-in-Some-clause-read c = (c.in-Some.ensures.read.0, c.in-Some.ensures.read.1 ∙ sym (step_line_is _ _))

pub returns-in-None-clause-read : goal.returns-in-None-clause-read
returns-in-None-clause-read c =
    no_step c.args.text.now (length c.args.tied.now) (λ is. false-ne_true (c.if-is_same.ensures.1 is))
    (λ is. false-ne_true (c.if-is_same-2.ensures.1 is)) c.in-None.ensures.read
