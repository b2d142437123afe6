use Rattle.std.proofs.Common.{◌≡◌, map, take}
use Rattle.std.specs.String.{string_bytes}
use Rattle.file_edge.specs.Words.{files_of, words_of}
use Rattle.file_edge.proofs.given.part.Given as goal

abbrev pub invariant-loop-at : goal.invariant-loop-at
invariant-loop-at l =
    (map string_bytes l.given.words.items ≡ words_of (take l.at (map string_bytes l.words)))
    × (map string_bytes l.given.files.items ≡ files_of (take l.at (map string_bytes l.words)))
