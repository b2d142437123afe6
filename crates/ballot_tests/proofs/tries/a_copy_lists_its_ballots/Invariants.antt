use Rattle.ballot_tests.proofs.tries.a_copy_lists_its_ballots.Given as goal

abbrev pub ghosts-two_in : goal.ghosts-two_in
ghosts-two_in g a = record { name = a.blank.name; parts = a.blank.parts }
