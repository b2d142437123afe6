use Rattle.std.proofs.Common.{◌≡◌, ◌≢◌, ◌++◌, [], List, map, string_bytes, length, All}
use Rattle.std.specs.List.{flat_map}
use Rattle.import_words.specs.Pairs.{ArePairs, Said, words_of}
use Rattle.import_words.specs.Values.{pairs_in}
use Rattle.import_words.proofs.pairs.pairs.Given as goal

-- the pairs so far are at the front, and where the words are pairs, so is what is left
abbrev pub invariant-loop-rest : goal.invariant-loop-rest
invariant-loop-rest l = record {
  front : map string_bytes l.fn.words ≡ flat_map words_of (pairs_in l.pairs.items) ++ map string_bytes l.rest;
  values : All (λ said. said.value ≢ []) (pairs_in l.pairs.items);
  left :
      (pairs : List Said) → ArePairs (map string_bytes l.fn.words) pairs
      → (behind : List Said) × ArePairs (map string_bytes l.rest) behind;
}

abbrev pub decreases-loop-rest : goal.decreases-loop-rest
decreases-loop-rest l = length l.rest
