use Rattle.std.proofs.Common.{◌≡◌, ◌+◌, inl, inr, ap, arith}
use Rattle.tally_board.proofs.Fronts.{told_begins}
use Rattle.tally_board.proofs.NoteLemmas.{both_begin}
use Rattle.tally_board.proofs.note.Note.begins.Goals as goal

pub returns-then-self-before : goal.returns-then-self-before
returns-then-self-before c so =
    let one = c.self in let other = c.before-2 in
    let both =
    both_begin one.inside other.inside _ _ one.view_is other.view_is c.requires _ c.learn.new.self.log
    (ap (λ t. t.log) c.again-both.ensures) c.learn.ensures.2 c.learn.ensures.3 in
    rw (← one.view_is, ← other.view_is) (told_begins one.inside.count other.inside.count one.inside.last
    other.inside.last _ _ _ one.invariant other.invariant
    c.if-self-ge18446744073709551615.false c.if-before-ge18446744073709551615.false both.0 both.1 c.args.last
    (inl c.if-self-before.true))

pub returns : goal.returns
returns c so =
    let one = c.self in let other = c.before-2 in
    let both =
    both_begin one.inside other.inside _ _ one.view_is other.view_is c.requires _ c.learn.new.self.log
    (ap (λ t. t.log) c.again-both.ensures) c.learn.ensures.2 c.learn.ensures.3 in
    let long : one.inside.count ≡ other.inside.count + 1 = omega (arith, c.if-self-before-2.false, c.if-self-before.false) in
    rw (← one.view_is, ← other.view_is) (told_begins one.inside.count other.inside.count one.inside.last
    other.inside.last _ _ _ one.invariant other.invariant
    c.if-self-ge18446744073709551615.false c.if-before-ge18446744073709551615.false both.0 both.1 c.args.last
    (inr (long, c.is_same.ensures so)))
