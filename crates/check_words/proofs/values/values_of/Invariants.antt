use Rattle.std.proofs.Common.{length, map, string_bytes}
use Rattle.check_words.proofs.PairLemmas.{IsReadUpTo}
use Rattle.check_words.proofs.values.values_of.Given as goal

abbrev pub invariant-loop-rest : goal.invariant-loop-rest
invariant-loop-rest l = IsReadUpTo (map string_bytes l.fn.words) (map string_bytes l.rest) l.values

abbrev pub decreases-loop-rest : goal.decreases-loop-rest
decreases-loop-rest l = length l.rest
