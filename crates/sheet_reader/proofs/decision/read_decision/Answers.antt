use Rattle.std.proofs.Common.{refl, sym, ◌∙◌, ◌∷◌, ◌++◌}
use Rattle.std.specs.Prelude.{codes}
use Rattle.sheet_text.specs.Lines.{marked_lines, step_line}
use Rattle.sheet_reader.proofs.Decisions.{decision_read}
use Rattle.sheet_reader.proofs.RowLines.{after_capped, after_elected, decision_is}
use Rattle.sheet_reader.proofs.decision.read_decision.Goals as goal

pub returns-then-not-read_marks-clause-read : goal.returns-then-not-read_marks-clause-read
returns-then-not-read_marks-clause-read c e d t step rest le ld lt has is =
    let first =
    c.read_marks.ensures.whole e (marked_lines (codes "capped") d ++ (step_line step t ∷ rest))
    (le ∙ sym c.requires.elected) (after_elected d step t rest) (is ∙ decision_is e d step t rest) in
    let read = first.0 in cc

pub returns-then-not-read_marks-2-clause-read : goal.returns-then-not-read_marks-2-clause-read
returns-then-not-read_marks-2-clause-read c e d t step rest le ld lt has is =
    let first =
    c.read_marks.ensures.whole e (marked_lines (codes "capped") d ++ (step_line step t ∷ rest))
    (le ∙ sym c.requires.elected) (after_elected d step t rest) (is ∙ decision_is e d step t rest) in
    let second =
    c.read_marks-2.ensures.whole d (step_line step t ∷ rest) (ld ∙ sym c.requires.capped)
    (after_capped step t rest) first.1 in
    let read = second.0 in cc

pub returns-in_default-clause-read : goal.returns-in_default-clause-read
returns-in_default-clause-read c e d t step rest le ld lt has is =
    let first =
    c.read_marks.ensures.whole e (marked_lines (codes "capped") d ++ (step_line step t ∷ rest))
    (le ∙ sym c.requires.elected) (after_elected d step t rest) (is ∙ decision_is e d step t rest) in
    let second =
    c.read_marks-2.ensures.whole d (step_line step t ∷ rest) (ld ∙ sym c.requires.capped)
    (after_capped step t rest) first.1 in
    let none = c.in_default.ensures.0 in
    let some = second.1 in cc

pub returns-clause-read : goal.returns-clause-read
returns-clause-read c =
    decision_read c.read_step.result _ c.read_marks.new.marks c.read_marks-2.new.marks _ _ _ _ _ _
    (c.if-not-read_marks.ensures.sound refl) (c.if-not-read_marks-2.ensures.sound refl) c.in-Some.ensures
    (λ e d t step rest le ld lt has is. let first =
    c.read_marks.ensures.whole e (marked_lines (codes "capped") d ++ (step_line step t ∷ rest))
    (le ∙ sym c.requires.elected) (after_elected d step t rest) (is ∙ decision_is e d step t rest) in
    (c.read_marks-2.ensures.whole d (step_line step t ∷ rest) (ld ∙ sym c.requires.capped)
    (after_capped step t rest) first.1).1)
    c.read_step.ensures.read
