use Rattle.std.proofs.Common.{refl, ◌∙◌, subst}
use Rattle.std.specs.Prelude.{Option, IfSome}
use Rattle.ballot_pieces.specs.declared.found.Found.{Found}
use Rattle.ballot_pieces.specs.Found.{IsFound, no_ballots}
use Rattle.ballot_pieces.proofs.Joining.{both_found}
use Rattle.ballot_pieces.proofs.found.Found.takes.Goals as goal

pub returns : goal.returns
returns c store from before =
    let found =
    subst
    (λ (o : Option Found). IfSome o (IsFound c.args.bounds (no_ballots c.args.bounds.candidates) c.args.piece.from))
    c.in-Some.is c.requires.piece.found in
    both_found c.args.bounds store from c.args.piece.from c.args.self.now c.in-Some.more
    (record { ballots = c.append.new.self; to = c.in-Some.more.to }) found (c.if-not-is_at.ensures refl) refl
    (c.append.ensures.candidates ∙ c.requires.candidates) c.in_ok-append.ensures.lines (c.if-not-has_room.ensures refl) before
