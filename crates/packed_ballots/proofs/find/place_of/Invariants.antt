use Rattle.packed_ballots.proofs.find.place_of.Given as goal

abbrev pub invariant-loop-seat : goal.invariant-loop-seat
invariant-loop-seat l = Unit {0}
