-- What the stems of a walk give to a candidate.
use Rattle.std.specs.Prelude.{ℕ, ◌-◌, ◌*◌, List, [], ◌∷◌, slice_index, slice_set, replicate, take, drop, sum}
use Rattle.vote_spread.specs.declared.depths.TheConstants.{DEPTHS}
use Rattle.meek_rule.specs.Weights.{kept, given}
use Rattle.vote_spread.specs.Stem.{Stem}

-- the weight with which a stem is reached, where `weights` has for each depth the weight after the candidate there
abbrev pub reached : (weights : List ℕ) → Stem → ℕ
reached weights stem = slice_index weights (stem.depth - 1)

-- the weight that a stem's candidate leaves
abbrev pub left : (s : ℕ) (keeps : List ℕ) (weights : List ℕ) → Stem → ℕ
left s keeps weights stem = reached weights stem - kept s keeps (reached weights stem) stem.candidate

-- the weights after a stem
abbrev pub past : (s : ℕ) (keeps : List ℕ) (weights : List ℕ) → Stem → List ℕ
past s keeps weights stem = slice_set weights stem.depth (left s keeps weights stem)

-- what the stem's ballots together give to candidate c at the stem and on its tail
abbrev pub gain : (s : ℕ) (keeps : List ℕ) (c : ℕ) (weights : List ℕ) → Stem → ℕ
gain s keeps c weights stem = stem.ballots * given s keeps (reached weights stem) (stem.candidate ∷ stem.tail) c

-- for each stem what it gives to candidate c
abbrev pub gains : (s : ℕ) (keeps : List ℕ) (c : ℕ) (weights : List ℕ) → List Stem → List ℕ
gains s keeps c weights [] = []
gains s keeps c weights (stem ∷ stems) = gain s keeps c weights stem ∷ gains s keeps c (past s keeps weights stem) stems

-- the weights before any candidate
abbrev pub opening : (s : ℕ) → List ℕ
opening s = slice_set (replicate DEPTHS 0) 0 s

-- what stems `from` to `to` give to candidate c
abbrev pub part : (s : ℕ) (keeps : List ℕ) (c : ℕ) → List Stem → (from to : ℕ) → ℕ
part s keeps c stems from to = sum (drop from (take to (gains s keeps c (opening s) stems)))
