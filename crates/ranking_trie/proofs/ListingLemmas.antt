-- The lines of a forest.
use Rattle.std.proofs.Common.{◌≡◌, ℕ, ◌+◌, List, [], ◌∷◌, ◌++◌, length, get_or, map, replicate}
use Rattle.std.proofs.Common.{append_assoc, append-nil, zero, suc, arith, refl, ap, sym, subst, ◌∙◌}
use Rattle.std.specs.List.{All}
use Rattle.std.proofs.lemmas.Grind.{flat_map-append}
use Rattle.std.proofs.lemmas.List.{map-append, length-append, length-map, length-replicate}
use Rattle.std.proofs.lemmas.List.Sums.{sum_by-append, sum_by-cons}
use Rattle.plain_ballots.specs.declared.ballot_line.BallotLine.{BallotLine}
use Rattle.plain_ballots.specs.Ballots.{BallotList, ballot_count, plain}
use Rattle.plain_ballots.specs.Ranking.{IsRanking}
use Rattle.ranking_trie.specs.Forest.{Forest, Empty, Grow}
use Rattle.ranking_trie.specs.Bag.{below, bag}
use Rattle.ranking_trie.specs.Lines.{line_of, behind, node_lines, lines_of}
use Rattle.ranking_trie.proofs.BagLemmas.{map-replicate}
use Rattle.ranking_trie.proofs.LineLemmas.{ballots_of}
use Rattle.ranking_trie.proofs.ListLemmas.{All-right, All-unmap}

-- lines after ranks that go on
pub behind_both :
    (front back : List ℕ) (lines : List BallotLine)
    → map (behind front) (map (behind back) lines) ≡ map (behind (front ++ back)) lines
behind_both front back [] = refl
behind_both front back (line ∷ lines) =
    let here : behind front (behind back line) ≡ behind (front ++ back) line =
    ap (λ (r : List ℕ). record { count = line.count; ranking = r }) (sym (append_assoc front back line.ranking)) in
    ap (λ (l : BallotLine). l ∷ map (behind front) (map (behind back) lines)) here
    ∙ ap (λ (ls : List BallotLine). behind (front ++ back) line ∷ ls) (behind_both front back lines)

-- the line of a node, after the ranks down to it
pub line_behind : (front : List ℕ) (n : ℕ) → map (behind front) (line_of n []) ≡ line_of n front
line_behind front zero = refl
line_behind front (suc n) = ap (λ (r : List ℕ). record { count = suc n; ranking = r } ∷ []) (append-nil front)

pub count-behind : (front : List ℕ) (lines : List BallotLine) → ballot_count (map (behind front) lines) ≡ ballot_count lines
count-behind front [] = refl
count-behind front (line ∷ lines) =
    omega (
      arith,
      sum_by-cons (λ (l : BallotLine). l.count) (behind front line) (map (behind front) lines),
      sum_by-cons (λ (l : BallotLine). l.count) line lines,
      count-behind front lines,
    )

count-line_of : (n : ℕ) (r : List ℕ) → ballot_count (line_of n r) ≡ n
count-line_of zero r = refl
count-line_of (suc n) r = omega arith

pub count-node : (c n : ℕ) (lines : List BallotLine) → ballot_count (node_lines c n lines) ≡ n + ballot_count lines
count-node c n lines =
    omega (
      arith,
      count-behind (c ∷ []) (line_of n [] ++ lines),
      sum_by-append (λ (l : BallotLine). l.count) (line_of n []) lines,
      count-line_of n [],
    )

pub length-below : (c n : ℕ) (inner : List (List ℕ)) → length (below c n inner) ≡ n + length inner
length-below c n inner =
    omega (
      arith,
      length-map (replicate n [] ++ inner) (λ (r : List ℕ). c ∷ r),
      length-append {A = List ℕ} (replicate n []) inner,
      length-replicate {A = List ℕ} n [],
    )

-- the lines have as many ballots as the forest
pub count-lines : (f : Forest) → ballot_count (lines_of f) ≡ length (bag f)
count-lines Empty = refl
count-lines (Grow c n p inner next) =
    omega (
      arith,
      sum_by-append (λ (l : BallotLine). l.count) (node_lines c n (lines_of inner)) (lines_of next),
      count-node c n (lines_of inner),
      length-append (below c n (bag inner)) (bag next),
      length-below c n (bag inner),
      count-lines inner,
      count-lines next,
    )

plain-behind : (c : ℕ) (lines : List BallotLine) → plain (map (behind (c ∷ [])) lines) ≡ map (λ r. c ∷ r) (plain lines)
plain-behind c [] = refl
plain-behind c (line ∷ lines) =
    let f : List ℕ → List ℕ = λ r. c ∷ r in
    ap (λ (l : List (List ℕ)). replicate line.count (c ∷ line.ranking) ++ l) (plain-behind c lines)
    ∙ (ap (λ (l : List (List ℕ)). l ++ map f (plain lines)) (sym (map-replicate f line.count line.ranking))
    ∙ sym (map-append f (replicate line.count line.ranking) (plain lines)))

pub plain-line_of : (n : ℕ) (r : List ℕ) → plain (line_of n r) ≡ replicate n r
plain-line_of zero r = refl
plain-line_of (suc n) r = append-nil (replicate (suc n) r)

-- and stand for its ballots in order
pub plain-lines : (f : Forest) → plain (lines_of f) ≡ bag f
plain-lines Empty = refl
plain-lines (Grow c n p inner next) =
    let f : List ℕ → List ℕ = λ r. c ∷ r in
    let here : plain (node_lines c n (lines_of inner)) ≡ below c n (bag inner) =
    plain-behind c (line_of n [] ++ lines_of inner)
    ∙ ap (map f)
    (flat_map-append ballots_of (line_of n []) (lines_of inner)
    ∙ (ap (λ (l : List (List ℕ)). l ++ plain (lines_of inner)) (plain-line_of n [])
    ∙ ap (λ (l : List (List ℕ)). replicate n [] ++ l) (plain-lines inner))) in
    flat_map-append ballots_of (node_lines c n (lines_of inner)) (lines_of next)
    ∙ (ap (λ (l : List (List ℕ)). l ++ plain (lines_of next)) here
    ∙ ap (λ (l : List (List ℕ)). below c n (bag inner) ++ l) (plain-lines next))

-- lines with those of one more sibling, before the lines of the next
pub lines_step :
    (lines new : List BallotLine) (front : List ℕ) (c n : ℕ) (inner next : Forest)
    → new ≡ lines ++ map (behind front) (node_lines c n (lines_of inner))
    → new ++ map (behind front) (lines_of next)
    ≡ lines ++ map (behind front) (node_lines c n (lines_of inner) ++ lines_of next)
lines_step lines new front c n inner next is =
    let here = map (behind front) (node_lines c n (lines_of inner)) in
    ap (λ (l : List BallotLine). l ++ map (behind front) (lines_of next)) is
    ∙ (append_assoc lines here (map (behind front) (lines_of next))
    ∙ ap (λ (l : List BallotLine). lines ++ l)
    (sym (map-append (behind front) (node_lines c n (lines_of inner)) (lines_of next))))

-- they have its ballots more
pub count_step :
    (lines new : List BallotLine) (front : List ℕ) (c n : ℕ) (inner : Forest)
    → new ≡ lines ++ map (behind front) (node_lines c n (lines_of inner))
    → ballot_count new ≡ ballot_count lines + length (below c n (bag inner))
count_step lines new front c n inner is =
    let all :
    ballot_count new ≡ ballot_count (lines ++ map (behind front) (node_lines c n (lines_of inner))) =
    ap ballot_count is in
    let two = sum_by-append (λ (l : BallotLine). l.count) lines (map (behind front) (node_lines c n (lines_of inner))) in
    omega (
      arith,
      all,
      two,
      count-behind front (node_lines c n (lines_of inner)),
      count-node c n (lines_of inner),
      count-lines inner,
      length-below c n (bag inner),
    )

-- the line of a node, and those of the nodes below it
pub node_step :
    (lines : List BallotLine) (front : List ℕ) (c n : ℕ) (inner : Forest)
    → (lines ++ line_of n (front ++ c ∷ [])) ++ map (behind (front ++ c ∷ [])) (lines_of inner)
    ≡ lines ++ map (behind front) (node_lines c n (lines_of inner))
node_step lines front c n inner =
    let way = front ++ c ∷ [] in
    let own : line_of n way ≡ map (behind way) (line_of n []) = sym (line_behind way n) in
    append_assoc lines (line_of n way) (map (behind way) (lines_of inner))
    ∙ ap (λ (l : List BallotLine). lines ++ l)
    (ap (λ (l : List BallotLine). l ++ map (behind way) (lines_of inner)) own
    ∙ (sym (map-append (behind way) (line_of n []) (lines_of inner))
    ∙ sym (behind_both front (c ∷ []) (line_of n [] ++ lines_of inner))))

-- the rankings below a node
pub rankings_below :
    (m : ℕ) (front : List ℕ) (c n : ℕ) (inner : List (List ℕ))
    → All (λ r. IsRanking m (front ++ r)) (below c n inner)
    → All (λ r. IsRanking m ((front ++ c ∷ []) ++ r)) inner
rankings_below m front c n inner all =
    let here =
    All-right (λ r. IsRanking m (front ++ c ∷ r)) (replicate n []) inner
    (All-unmap (λ r. IsRanking m (front ++ r)) (λ (r : List ℕ). c ∷ r) (replicate n [] ++ inner) all) in
    λ k d inside. subst (IsRanking m) (sym (append_assoc front (c ∷ []) (get_or inner k d))) (here k d inside)

pub count-push :
    (lines : List BallotLine) (n : ℕ) (r : List ℕ)
    → ballot_count (lines ++ line_of n r) ≡ ballot_count lines + n
count-push lines n r = omega (arith, sum_by-append (λ (l : BallotLine). l.count) lines (line_of n r), count-line_of n r)

-- a list with the lines of a node added in two steps
pub node_listed :
    (old mid new : BallotList) (front ranks items : List ℕ) (c n : ℕ) (inner : Forest)
    → ranks ≡ front ++ c ∷ [] → items ≡ front ++ c ∷ []
    → mid ≡ record { candidates = old.candidates; lines = old.lines ++ line_of n ranks }
    → new ≡ record { candidates = mid.candidates; lines = mid.lines ++ map (behind items) (lines_of inner) }
    → new
    ≡ record {
      candidates = old.candidates;
      lines = old.lines ++ map (behind front) (node_lines c n (lines_of inner));
    }
node_listed old mid new front ranks items c n inner way same first second =
    let with_lines : BallotList → List ℕ → BallotList =
    λ b r. record { candidates = b.candidates; lines = b.lines ++ map (behind r) (lines_of inner) } in
    let with_line : List ℕ → BallotList = λ r. record { candidates = old.candidates; lines = old.lines ++ line_of n r } in
    second
    ∙ (ap (λ (r : List ℕ). with_lines mid r) same
    ∙ (ap (λ (b : BallotList). with_lines b (front ++ c ∷ [])) (first ∙ ap with_line way)
    ∙ ap (λ (ls : List BallotLine). record { candidates = old.candidates; lines = ls })
    (node_step old.lines front c n inner)))

pub behind_none : (lines : List BallotLine) → map (behind []) lines ≡ lines
behind_none [] = refl
behind_none (line ∷ lines) = ap (λ (ls : List BallotLine). line ∷ ls) (behind_none lines)

-- the lines of a whole trie stand for its ballots
pub all_listed :
    (n m : ℕ) (empty mid new : BallotList) (ranks : List ℕ) (f : Forest)
    → empty ≡ record { candidates = n; lines = [] } → ranks ≡ []
    → mid ≡ record { candidates = empty.candidates; lines = empty.lines ++ line_of m [] }
    → new ≡ record { candidates = mid.candidates; lines = mid.lines ++ map (behind ranks) (lines_of f) }
    → new ≡ record { candidates = n; lines = line_of m [] ++ lines_of f }
all_listed n m empty mid new ranks f none no_ranks first second =
    let with_line : BallotList → BallotList = λ b. record { candidates = b.candidates; lines = b.lines ++ line_of m [] } in
    let with_lines : BallotList → List BallotLine → BallotList =
    λ b ls. record { candidates = b.candidates; lines = b.lines ++ ls } in
    second
    ∙ (ap (λ (r : List ℕ). with_lines mid (map (behind r) (lines_of f))) no_ranks
    ∙ (ap (with_lines mid) (behind_none (lines_of f))
    ∙ ap (λ (b : BallotList). with_lines b (lines_of f)) (first ∙ ap with_line none)))

pub plain-listed : (m : ℕ) (f : Forest) → plain (line_of m [] ++ lines_of f) ≡ replicate m [] ++ bag f
plain-listed m f =
    flat_map-append ballots_of (line_of m []) (lines_of f)
    ∙ (ap (λ (l : List (List ℕ)). l ++ plain (lines_of f)) (plain-line_of m [])
    ∙ ap (λ (l : List (List ℕ)). replicate m [] ++ l) (plain-lines f))
