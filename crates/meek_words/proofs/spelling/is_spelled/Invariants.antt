use Rattle.std.proofs.Common.{List, map, string_bytes, length}
use Rattle.meek_words.specs.Parts.{Part}
use Rattle.meek_words.proofs.FrontLemmas.{IsFront, StoodOnce}
use Rattle.meek_words.proofs.spelling.is_spelled.Given as goal

-- some parts are done, and what stood is what is among them
abbrev pub invariant-loop-rest : goal.invariant-loop-rest
invariant-loop-rest l =
    (done : List Part) × IsFront (map string_bytes l.words) done (map string_bytes l.rest) × StoodOnce l.stood done

abbrev pub decreases-loop-rest : goal.decreases-loop-rest
decreases-loop-rest l = length l.rest
