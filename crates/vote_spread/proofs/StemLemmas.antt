-- Branches and their stems.
use Rattle.std.proofs.Common.{◌≡◌, ℕ, ◌+◌, ◌<◌, ◌≤◌, List, [], ◌∷◌, ◌++◌, length, take, drop, set, get_or}
use Rattle.std.proofs.Common.{arith, refl, ap, sym, ◌∙◌, suc}
use Rattle.std.proofs.lemmas.List.{get_or-map, map-set, map-append, length-drop, drop_at, take_all}
use Rattle.std.proofs.lemmas.List.{take-append-le, drop-append-le}
use Rattle.vote_spread.specs.declared.branch.Branch.{Branch}
use Rattle.vote_spread.specs.Stem.{Stem, stem_of, stems_of, closed_stem}
use Rattle.vote_spread.specs.Walk.{HaveTails}

-- tails that stand are not moved by more after them
pub stems_of-more :
    (tails more : List ℕ) (branches : List Branch) → HaveTails (length tails) branches
    → stems_of (tails ++ more) branches ≡ stems_of tails branches
stems_of-more tails more [] have = refl
stems_of-more tails more (b ∷ branches) have =
    let inside : b.tail + b.length ≤ length tails = have 0 b (omega arith) in
    let rest = length-drop b.tail tails in
    let cut : take b.length (drop b.tail (tails ++ more)) ≡ take b.length (drop b.tail tails) =
    ap (take b.length) (drop-append-le b.tail tails more (omega arith))
    ∙ take-append-le b.length (drop b.tail tails) more (omega arith) in
    ap (λ (t : List ℕ). record
    { depth = b.depth; candidate = b.candidate; ballots = b.ballots; skip = b.skip; tail = t }
    ∷ stems_of (tails ++ more) branches) cut
    ∙ ap (λ l. stem_of tails b ∷ l) (stems_of-more tails more branches (λ k d lt. have (suc k) d (omega arith)))

-- a branch after others, with its tail after theirs
pub stems_of-push :
    (tails tail : List ℕ) (branches : List Branch) (b : Branch) → HaveTails (length tails) branches
    → b.tail ≡ length tails → b.length ≡ length tail
    → stems_of (tails ++ tail) (branches ++ b ∷ [])
    ≡ stems_of tails branches
    ++ record
    { depth = b.depth; candidate = b.candidate; ballots = b.ballots; skip = b.skip; tail = tail } ∷ []
stems_of-push tails tail branches b have at size =
    let cut : take b.length (drop b.tail (tails ++ tail)) ≡ tail =
    ap (take b.length) (drop_at tails tail b.tail (sym at)) ∙ take_all b.length tail (omega arith) in
    map-append (stem_of (tails ++ tail)) branches (b ∷ [])
    ∙ (ap (λ l. l ++ stem_of (tails ++ tail) b ∷ []) (stems_of-more tails tail branches have)
    ∙ ap (λ (t : List ℕ). stems_of tails branches
    ++ record { depth = b.depth; candidate = b.candidate; ballots = b.ballots; skip = b.skip; tail = t }
    ∷ []) cut)

-- a stem that takes in others
pub stems_of-close :
    (tails : List ℕ) (branches : List Branch) (at skip : ℕ) (d : Branch) (e : Stem) → at < length branches
    → stems_of tails (set branches at (record {
      ballots = (get_or branches at d).ballots;
      skip = skip;
      tail = (get_or branches at d).tail;
      depth = (get_or branches at d).depth;
      candidate = (get_or branches at d).candidate;
      length = (get_or branches at d).length;
    }))
    ≡ set (stems_of tails branches) at (closed_stem (get_or (stems_of tails branches) at e) skip)
stems_of-close tails branches at skip d e below =
    let b = get_or branches at d in
    map-set (stem_of tails) branches at (record {
      ballots = b.ballots;
      skip = skip;
      tail = b.tail;
      depth = b.depth;
      candidate = b.candidate;
      length = b.length;
    })
    ∙ ap (λ x. set (stems_of tails branches) at (closed_stem x skip))
    (sym (get_or-map (stem_of tails) branches at d e below))
