use Rattle.tally_board.proofs.opening.+fill.Given as goal

-- proposed from what the function passes where it calls itself
abbrev pub decreases-fill : goal.decreases-fill
decreases-fill l = l.count
