use Rattle.sheet_reader.proofs.OwnPlaces.{iterations_say, no_iteration_says}
use Rattle.sheet_reader.proofs.laws.iterations_say_their_places.Goals as goal

pub returns-clause-places : goal.returns-clause-places
returns-clause-places c = iterations_say

pub returns-clause-none : goal.returns-clause-none
returns-clause-none c = no_iteration_says
