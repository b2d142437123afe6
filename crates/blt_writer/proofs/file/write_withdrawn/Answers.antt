use Rattle.std.proofs.Common.{◌≡◌, ◌∙◌, ap, subst, refl, ℕ, ◌+◌, ◌<◌, Bool, true, false, cond, List, [], ◌∷◌}
use Rattle.std.proofs.Common.{◌++◌, length, get_or, arith}
use Rattle.std.specs.List.{filter, flat_map, range_with_len}
use Rattle.std.proofs.lemmas.List.{take_all}
use Rattle.std.proofs.lemmas.List.FromFn.{length-range_with_len, get_or-range_with_len}
use Rattle.candidate_roll.specs.Roll.{is_withdrawn}
use Rattle.piece_text.specs.Writing.{Wrote, Stopped, Writes}
use Rattle.piece_text.proofs.Written.{wrote_nothing, wrote_more, stopped_at}
use Rattle.blt_writer.specs.Marks.{mark_text}
use Rattle.blt_writer.specs.Text.{withdrawn_text}
use Rattle.blt_writer.proofs.file.write_withdrawn.Goals as goal

mark_by :
    (b : Bool) (c : ℕ) (cs : List ℕ)
    → cond b (withdrawn_text c) [] ++ flat_map withdrawn_text cs ≡ flat_map withdrawn_text (cond b (c ∷ cs) cs)
mark_by true c cs = refl
mark_by false c cs = refl

-- the lines of all candidates are those of the withdrawn ones
marks_are :
    (withdrawn : List Bool) (cs : List ℕ)
    → flat_map (mark_text withdrawn) cs ≡ flat_map withdrawn_text (filter (is_withdrawn withdrawn) cs)
marks_are withdrawn [] = refl
marks_are withdrawn (c ∷ cs) =
    ap (λ (l : List ℕ). mark_text withdrawn c ++ l) (marks_are withdrawn cs)
    ∙ mark_by (is_withdrawn withdrawn c) c (filter (is_withdrawn withdrawn) cs)

number_is : (n i : ℕ) → i < n → i + 1 ≡ get_or (range_with_len 1 n) i 0
number_is n i inside = omega (arith, get_or-range_with_len 1 n i 0 inside)

pub loop-before-init : goal.loop-before-init
loop-before-init g c = wrote_nothing _ _ _

pub loop-before-preserved : goal.loop-before-preserved
loop-before-preserved g c =
    let marks = c.args.roll.now.withdrawn in
    let i = c.loop-before.before in
    let inside : i < length marks = omega arith in
    wrote_more (mark_text marks) (range_with_len 1 (length marks)) i 0
    (omega (arith, inside, length-range_with_len 1 (length marks))) c.loop-before.invariant
    (subst (λ (k : ℕ). Wrote g.K.Sink.written g.K.Sink.faults c.loop-before.sink c.write_mark.new.sink
    (mark_text marks k)) (number_is (length marks) i inside) c.in_ok-write_mark.ensures)

pub returns-in_err-write_mark : goal.returns-in_err-write_mark
returns-in_err-write_mark g c =
    let marks = c.args.roll.now.withdrawn in
    let i = c.loop-before.before in
    let inside : i < length marks = omega arith in
    subst (λ (l : List ℕ). Writes g.K.Sink.written g.K.Sink.faults c.args.sink.now c.write_mark.new.sink l
    c.from_residual.result)
    (marks_are marks (range_with_len 1 (length marks)))
    (stopped_at (mark_text marks) (range_with_len 1 (length marks)) i 0 _ c.from_residual.ensures.0
    (omega (arith, inside, length-range_with_len 1 (length marks))) c.loop-before.invariant
    (subst (λ (k : ℕ). Stopped g.K.Sink.written g.K.Sink.faults c.loop-before.sink c.write_mark.new.sink
    (mark_text marks k)) (number_is (length marks) i inside) c.in_err-write_mark.ensures))

pub returns : goal.returns
returns g c =
    let marks = c.args.roll.now.withdrawn in
    let all = range_with_len 1 (length marks) in
    subst (λ (l : List ℕ). Wrote g.K.Sink.written g.K.Sink.faults c.args.sink.now c.loop-before.sink l)
    (ap (flat_map (mark_text marks))
    (take_all c.loop-before.before all (omega (arith, length-range_with_len 1 (length marks))))
    ∙ marks_are marks all)
    c.loop-before.invariant
