use Rattle.tally_cli.proofs.hall.Hall.make.Given as goal

abbrev pub ghosts-enter : goal.ghosts-enter
ghosts-enter g a = record { name = a.blank.name; parts = a.blank.parts }
