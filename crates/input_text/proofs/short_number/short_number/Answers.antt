use Rattle.input_text.proofs.short_number.short_number.Goals as goal

pub returns-then-rare-clause-none : goal.returns-then-rare-clause-none
returns-then-rare-clause-none c = rw c.if-rare.true c.number_of_two.ensures.none

pub returns-else-rare-clause-none : goal.returns-else-rare-clause-none
returns-else-rare-clause-none c = rw c.if-rare.false c.number_of_three.ensures.none
