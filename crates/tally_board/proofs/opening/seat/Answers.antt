use Rattle.std.proofs.Common.{drop, sym, ◌∙◌}
use Rattle.tally_board.specs.Desk.{desk_of}
use Rattle.tally_board.specs.contracts.scribe.Scribe.{the_view}
use Rattle.tally_board.proofs.RuleLemmas.{comes, tells, names}
use Rattle.tally_board.proofs.opening.seat.Goals as goal

pub reader-requires : goal.reader-requires
reader-requires c = comes

pub tell-requires : goal.tell-requires
tell-requires c = tells _ _

pub learn-requires-clause-rule : goal.learn-requires-clause-rule
learn-requires-clause-rule c = names _ _ _ _

-- the scribe is there, and still has what contracts see
pub returns-in_err-reader-in-Some-clause-scribe : goal.returns-in_err-reader-in-Some-clause-scribe
returns-in_err-reader-in-Some-clause-scribe c =
    (λ i. the_view (record { writer = sym c.in-Some.is i; chronicle = c.scribe.inside.chronicle })) ∙ c.scribe.view_is

pub returns-clause-scribe : goal.returns-clause-scribe
returns-clause-scribe c =
    let kept = c.tell.ensures.kept in
    (λ i. desk_of c.scribe.inside.chronicle.board (kept.0 i).value (drop (kept.2 i) (kept.1 i).items))
    ∙ (λ i. the_view (record { writer = sym c.in-Some.is i; chronicle = c.scribe.inside.chronicle })) ∙ c.scribe.view_is
