-- The list of moves that a `Story` stands for.
use Rattle.std.specs.Prelude.{List, [], ◌∷◌, ◌++◌}
use Rattle.tally_board.specs.declared.ballot_move.Move.{Move}
use Rattle.tally_board.specs.declared.story.Story.{Story, Empty, Longer'}

abbrev pub moves_of : Story → List Move
moves_of Empty = []
moves_of (Longer' shape before m) = moves_of before ++ m ∷ []
