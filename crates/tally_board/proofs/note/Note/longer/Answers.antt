use Rattle.std.proofs.Common.{ap, arith}
use Rattle.tally_board.proofs.Fronts.{counted_shorter}
use Rattle.tally_board.proofs.NoteLemmas.{both_begin}
use Rattle.tally_board.proofs.note.Note.longer.Goals as goal

pub returns-then-self-ge18446744073709551615-clause-this : goal.returns-then-self-ge18446744073709551615-clause-this
returns-then-self-ge18446744073709551615-clause-this c =
    let one = c.self in let two = c.other in
    let both =
    both_begin one.inside two.inside _ _ one.view_is two.view_is c.requires _ c.learn.new.self.log
    (ap (λ t. t.log) c.again-both.ensures) c.learn.ensures.2 c.learn.ensures.3 in
    rw (c.again.ensures, ← one.view_is) both.0

pub returns-then-self-ge18446744073709551615-clause-that : goal.returns-then-self-ge18446744073709551615-clause-that
returns-then-self-ge18446744073709551615-clause-that c =
    let one = c.self in let two = c.other in
    let both =
    both_begin one.inside two.inside _ _ one.view_is two.view_is c.requires _ c.learn.new.self.log
    (ap (λ t. t.log) c.again-both.ensures) c.learn.ensures.2 c.learn.ensures.3 in
    rw (c.again.ensures, ← two.view_is) both.1

pub returns-then-self-other-clause-this : goal.returns-then-self-other-clause-this
returns-then-self-other-clause-this c =
    let one = c.self in let two = c.other in
    let both =
    both_begin one.inside two.inside _ _ one.view_is two.view_is c.requires _ c.learn.new.self.log
    (ap (λ t. t.log) c.again-both.ensures) c.learn.ensures.2 c.learn.ensures.3 in
    rw (← one.view_is, ← two.view_is) (counted_shorter one.inside.count two.inside.count one.inside.last
    two.inside.last _ _ _ one.invariant two.invariant
    c.if-self-ge18446744073709551615.false c.if-other-ge18446744073709551615.false both.0 both.1
    (omega (arith, c.if-self-other.true)))

pub returns-else-self-other-clause-that : goal.returns-else-self-other-clause-that
returns-else-self-other-clause-that c =
    let one = c.self in let two = c.other in
    let both =
    both_begin one.inside two.inside _ _ one.view_is two.view_is c.requires _ c.learn.new.self.log
    (ap (λ t. t.log) c.again-both.ensures) c.learn.ensures.2 c.learn.ensures.3 in
    rw (c.again-else-self-other.ensures, ← one.view_is, ← two.view_is) (counted_shorter two.inside.count
    one.inside.count two.inside.last one.inside.last _ _ _ two.invariant one.invariant
    c.if-other-ge18446744073709551615.false c.if-self-ge18446744073709551615.false both.1 both.0
    (omega (arith, c.if-self-other.false)))
