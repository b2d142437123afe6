-- The ballots of a forest are in order, and one bag has one order and one form.
use Rattle.std.proofs.Common.{◌≡◌, ℕ, ◌+◌, ◌<◌, ◌≤◌, Bool, true, false, cond, nat_eq, List, [], ◌∷◌, ◌++◌}
use Rattle.std.proofs.Common.{length, get_or, drop, map, replicate, zero, suc, arith, refl, ap, sym, subst}
use Rattle.std.proofs.Common.{◌∙◌}
use Rattle.std.specs.List.{AllByRecursion}
use Rattle.std.specs.List.Sorted.{IsPermutation, IsStrictlySortedBy}
use Rattle.std.specs.Cmp.Lexicographic.{pointwise}
use Rattle.std.proofs.lemmas.List.{append_cancel_left, get_or_append_left, get_or-map, length-append, length-map}
use Rattle.std.proofs.lemmas.List.Elements.{recursion_from_All}
use Rattle.std.proofs.lemmas.List.Sorted.{sum_by-IsPermutation}
use Rattle.std.proofs.lemmas.Slice.Eq.{bytes_eq-Decides}
use Rattle.plain_ballots.specs.declared.ballot_line.BallotLine.{BallotLine}
use Rattle.plain_ballots.specs.Ballots.{plain}
use Rattle.plain_ballots.specs.Ranking.{IsRanking}
use Rattle.ranking_trie.specs.Forest.{Forest, Empty, Grow}
use Rattle.ranking_trie.specs.Bag.{below, bag, node_count, IsRising, HaveSameForm}
use Rattle.ranking_trie.specs.BallotBag.{AreInOrder, IsSoundBag, count_of}
use Rattle.ranking_trie.specs.Lines.{line_of, behind, node_lines, lines_of, HaveRisingRankings}
use Rattle.ranking_trie.proofs.CountLemmas.{one_for, one_for-own, count_of-append, count_of-cons, count_of_blank}
use Rattle.ranking_trie.proofs.ListingLemmas.{plain-lines, plain-listed, length-below}
use Rattle.ranking_trie.proofs.LineLemmas.{ballots_of}
use Rattle.ranking_trie.proofs.OrderLemmas.{before, upto, cmp-same, cmp-less, upto-from_before, upto-refl}
use Rattle.ranking_trie.proofs.OrderLemmas.{same_from_both, each-append, each-weaker, each-map}
use Rattle.ranking_trie.proofs.OrderLemmas.{each-replicate, Follows, follows-append, follows-map}
use Rattle.ranking_trie.proofs.OrderLemmas.{follows-replicate, order_from_follows, follows_from_order}

-- a ranking that begins above a candidate
abbrev pub IsAbove : ℕ → List ℕ → Type 0
IsAbove low [] = ⊥
IsAbove low (c ∷ r) = low < c

abbrev pub line_before : BallotLine → BallotLine → Type 0
line_before a b = before a.ranking b.ranking

heads_own :
    (low c : ℕ) (lines : List BallotLine) → low < c
    → AllByRecursion (λ line. IsAbove low line.ranking) (map (behind (c ∷ [])) lines)
heads_own low c [] less = tt
heads_own low c (line ∷ lines) less = (less, heads_own low c lines less)

above_less : (low high : ℕ) (r : List ℕ) → low ≤ high → IsAbove high r → IsAbove low r
above_less low high [] less above = above
above_less low high (c ∷ r) less above = omega arith

pub heads : (low : ℕ) (f : Forest) → IsRising low f → AllByRecursion (λ line. IsAbove low line.ranking) (lines_of f)
heads low Empty rising = tt
heads low (Grow c n p inner next) rising =
    let more : low < c = rising.0 in
    each-append (λ (line : BallotLine). IsAbove low line.ranking) (node_lines c n (lines_of inner)) (lines_of next)
    (heads_own low c (line_of n [] ++ lines_of inner) more)
    (each-weaker (λ (line : BallotLine). IsAbove c line.ranking)
    (λ (line : BallotLine). IsAbove low line.ranking) (lines_of next)
    (λ line above. above_less low c line.ranking (omega arith) above) (heads c next rising.3))

blank_before : (r : List ℕ) → IsAbove 0 r → before [] r
blank_before [] above = absurd above
blank_before (c ∷ r) above = refl

own_before : (c : ℕ) (r s : List ℕ) → IsAbove c s → before (c ∷ r) s
own_before c r [] above = absurd above
own_before c r (d ∷ s) above = cmp-less c d r s above

-- the line of a node is before those below it
pub listed_follow :
    (n : ℕ) (lines : List BallotLine) → AllByRecursion (λ line. IsAbove 0 line.ranking) lines
    → Follows line_before lines → Follows line_before (line_of n [] ++ lines)
listed_follow zero lines above follow = follow
listed_follow (suc n) lines above follow = (
  each-weaker (λ (line : BallotLine). IsAbove 0 line.ranking) (line_before (record { count = suc n; ranking = [] })) lines
      (λ line some. blank_before line.ranking some) above,
  follow,
)

each_weaker_two :
    {X : Type 0} (R S : X → X → Type 0) (xs : List X) → ((x y : X) → R x y → S x y) → Follows R xs
    → Follows S xs
each_weaker_two R S [] weaker a = tt
each_weaker_two R S (x ∷ xs) weaker a = (each-weaker (R x) (S x) xs (weaker x) a.0, each_weaker_two R S xs weaker a.1)

node_before :
    (c : ℕ) (lines next : List BallotLine) → AllByRecursion (λ line. IsAbove c line.ranking) next
    → AllByRecursion (λ line. AllByRecursion (line_before line) next) (map (behind (c ∷ [])) lines)
node_before c [] next above = tt
node_before c (line ∷ lines) next above = (
  each-weaker (λ (l : BallotLine). IsAbove c l.ranking) (line_before (behind (c ∷ []) line)) next
      (λ l some. own_before c line.ranking l.ranking some) above,
  node_before c lines next above,
)

-- rankings of lines rise strictly
pub lines_follow : (low : ℕ) (f : Forest) → IsRising low f → Follows line_before (lines_of f)
lines_follow low Empty rising = tt
lines_follow low (Grow c n p inner next) rising =
    let own = line_of n [] ++ lines_of inner in
    let here = listed_follow n (lines_of inner) (heads 0 inner rising.2) (lines_follow 0 inner rising.2) in
    follows-append line_before (node_lines c n (lines_of inner)) (lines_of next)
    (follows-map line_before (behind (c ∷ [])) own
    (each_weaker_two line_before (λ (a b : BallotLine). line_before (behind (c ∷ []) a) (behind (c ∷ []) b)) own
    (λ a b less. cmp-same c a.ranking b.ranking ∙ less) here))
    (lines_follow c next rising.3)
    (node_before c own (lines_of next) (heads c next rising.3))

pub each-plain :
    (P : List ℕ → Type 0) (lines : List BallotLine) → AllByRecursion (λ line. P line.ranking) lines
    → AllByRecursion P (plain lines)
each-plain P [] a = tt
each-plain P (line ∷ lines) a =
    each-append P (ballots_of line) (plain lines) (each-replicate P line.count line.ranking a.0) (each-plain P lines a.1)

pub plain_follow : (lines : List BallotLine) → Follows line_before lines → Follows upto (plain lines)
plain_follow [] a = tt
plain_follow (line ∷ lines) a =
    follows-append upto (ballots_of line) (plain lines)
    (follows-replicate upto line.count line.ranking (upto-refl line.ranking)) (plain_follow lines a.1)
    (each-replicate (λ (r : List ℕ). AllByRecursion (upto r) (plain lines)) line.count line.ranking
    (each-plain (upto line.ranking) lines (each-weaker (line_before line)
    (λ (l : BallotLine). upto line.ranking l.ranking) lines
    (λ l less. upto-from_before line.ranking l.ranking less) a.0)))

pub whole_follow : (ends : ℕ) (f : Forest) → IsRising 0 f → Follows line_before (line_of ends [] ++ lines_of f)
whole_follow ends f rising = listed_follow ends (lines_of f) (heads 0 f rising) (lines_follow 0 f rising)

-- the ballots of a trie are in order
pub in_order : (ends : ℕ) (f : Forest) → IsRising 0 f → AreInOrder (replicate ends [] ++ bag f)
in_order ends f rising =
    order_from_follows (replicate ends [] ++ bag f) (subst (Follows upto) (plain-listed ends f)
    (plain_follow (line_of ends [] ++ lines_of f) (whole_follow ends f rising)))

-- a ballot that is among others has what each of them has
is_among :
    (P : List ℕ → Type 0) (q z : List ℕ) (zs : List (List ℕ)) (b : Bool) → pointwise nat_eq z q ≡ b → P z
    → (1 ≤ count_of q zs → P q) → 1 ≤ count_of q (z ∷ zs) → P q
is_among P q z zs true same here rest some = subst P ((bytes_eq-Decides z q).0 same) here
is_among P q z zs false other here rest some =
    let none : one_for q z ≡ 0 = ap (λ (b : Bool). cond b 1 0) other in
    rest (omega (arith, count_of-cons q z zs))

pub has_each : (P : List ℕ → Type 0) (q : List ℕ) (zs : List (List ℕ)) → AllByRecursion P zs → 1 ≤ count_of q zs → P q
has_each P q [] a some = absurd (omega arith)
has_each P q (z ∷ zs) a some = is_among P q z zs (pointwise nat_eq z q) refl a.0 (has_each P q zs a.1) some

-- ballots in order are known from how many have each ranking
pub same_from_counts :
    (xs ys : List (List ℕ)) → Follows upto xs → Follows upto ys
    → ((q : List ℕ) → count_of q xs ≡ count_of q ys) → xs ≡ ys
same_from_counts [] [] a b same = refl
same_from_counts [] (y ∷ ys) a b same = absurd (omega (arith, same y, count_of-cons y y ys, one_for-own y))
same_from_counts (x ∷ xs) [] a b same = absurd (omega (arith, same x, count_of-cons x x xs, one_for-own x))
same_from_counts (x ∷ xs) (y ∷ ys) a b same =
    let first : upto y x =
    has_each (upto y) x (y ∷ ys) (upto-refl y, b.0)
    (omega (arith, same x, count_of-cons x x xs, one_for-own x)) in
    let second : upto x y =
    has_each (upto x) y (x ∷ xs) (upto-refl x, a.0)
    (omega (arith, same y, count_of-cons y y ys, one_for-own y)) in
    let e : x ≡ y = same_from_both x y second first in
    let rest : (q : List ℕ) → count_of q xs ≡ count_of q ys =
    λ q. omega (arith, same q, count_of-cons q x xs, count_of-cons q y ys, ap (one_for q) e) in
    ap (λ (z : List ℕ). z ∷ xs) e ∙ ap (λ (l : List (List ℕ)). y ∷ l) (same_from_counts xs ys a.1 b.1 rest)

-- what is left when the same ballots are taken out of one bag
pub undone : (xs ys both : List (List ℕ)) → AreInOrder xs → AreInOrder ys → IsPermutation (both ++ xs) (both ++ ys) → xs ≡ ys
undone xs ys both a b same =
    same_from_counts xs ys (follows_from_order xs a) (follows_from_order ys b)
    (λ q. omega (
      arith,
      sum_by-IsPermutation (one_for q) (both ++ xs) (both ++ ys) same,
      count_of-append q both xs,
      count_of-append q both ys,
    ))

-- ballots that begin with a candidate, before others that begin above it
split_heads :
    (c : ℕ) (xs us ys vs : List (List ℕ)) → AllByRecursion (IsAbove c) ys → AllByRecursion (IsAbove c) vs
    → map (λ r. c ∷ r) xs ++ ys ≡ map (λ r. c ∷ r) us ++ vs → (xs ≡ us) × (ys ≡ vs)
split_heads c [] [] ys vs above_y above_v same = (refl, same)
split_heads c [] (u ∷ us) ys vs above_y above_v same =
    let over : c < c = (subst (AllByRecursion (IsAbove c)) same above_y).0 in
    absurd (omega arith)
split_heads c (x ∷ xs) [] ys vs above_y above_v same =
    let over : c < c = (subst (AllByRecursion (IsAbove c)) (sym same) above_v).0 in
    absurd (omega arith)
split_heads c (x ∷ xs) (u ∷ us) ys vs above_y above_v same =
    let rest = split_heads c xs us ys vs above_y above_v (ap (drop 1) same) in
    let first : x ≡ u = ap (λ (l : List (List ℕ)). drop 1 (get_or l 0 [])) same in
    (ap (λ (z : List ℕ). z ∷ xs) first ∙ ap (λ (l : List (List ℕ)). u ∷ l) rest.0, rest.1)

pub bag_above : (low : ℕ) (f : Forest) → IsRising low f → AllByRecursion (IsAbove low) (bag f)
bag_above low f rising =
    subst (AllByRecursion (IsAbove low)) (plain-lines f)
    (each-plain (IsAbove low) (lines_of f) (heads low f rising))

-- the first ballot begins with the first candidate
first_head :
    (c n : ℕ) (inner next : List (List ℕ)) → 1 ≤ n + length inner
    → get_or (get_or (below c n inner ++ next) 0 []) 0 0 ≡ c
first_head c n inner next some =
    let size = length-below c n inner in
    let rest : List (List ℕ) = replicate n [] ++ inner in
    let longer : length (below c n inner) ≡ length rest = length-map rest (λ (r : List ℕ). c ∷ r) in
    ap (λ (r : List ℕ). get_or r 0 0)
    (get_or_append_left (below c n inner) next [] 0 (omega arith)
    ∙ get_or-map (λ (r : List ℕ). c ∷ r) rest 0 [] [] (omega arith))

not_none : (c n : ℕ) (inner next : List (List ℕ)) → 1 ≤ n + length inner → [] ≡ below c n inner ++ next → ⊥
not_none c n inner next some same =
    let none : 0 ≡ length (below c n inner ++ next) = ap length same in
    omega (arith, length-append (below c n inner) next, length-below c n inner)

-- equal ballots have nodes of the same form
pub same_form : (low high : ℕ) (f g : Forest) → IsRising low f → IsRising high g → bag f ≡ bag g → HaveSameForm f g
same_form low high Empty Empty a b same = tt
same_form low high Empty (Grow d m q inner next) a b same = not_none d m (bag inner) (bag next) b.1 same
same_form low high (Grow c n p inner next) Empty a b same = not_none c n (bag inner) (bag next) a.1 (sym same)
same_form low high (Grow c n p inner next) (Grow d m q inner_2 next_2) a b same =
    let e : c ≡ d =
    sym (first_head c n (bag inner) (bag next) a.1)
    ∙ (ap (λ (l : List (List ℕ)). get_or (get_or l 0 []) 0 0) same ∙ first_head d m (bag inner_2) (bag next_2) b.1) in
    let as_c : bag (Grow c n p inner next) ≡ below c m (bag inner_2) ++ bag next_2 =
    same ∙ ap (λ (k : ℕ). below k m (bag inner_2) ++ bag next_2) (sym e) in
    let above : AllByRecursion (IsAbove c) (bag next_2) =
    bag_above c next_2 (subst (λ (k : ℕ). IsRising k next_2) (sym e) b.3) in
    let parts =
    split_heads c (replicate n [] ++ bag inner) (replicate m [] ++ bag inner_2) (bag next) (bag next_2)
    (bag_above c next a.3) above as_c in
    let ends : n ≡ m = sym (count_of_blank n inner) ∙ (ap (count_of []) parts.0 ∙ count_of_blank m inner_2) in
    let inside : bag inner ≡ bag inner_2 =
    append_cancel_left (replicate n []) (bag inner) (bag inner_2)
    (parts.0 ∙ ap (λ (k : ℕ). replicate {A = List ℕ} k [] ++ bag inner_2) (sym ends)) in
    (e, ends, same_form 0 0 inner inner_2 a.2 b.2 inside, same_form c d next next_2 a.3 b.3 parts.1)

-- the lines of a trie have different rankings in order
rankings_rise : (lines : List BallotLine) → Follows line_before lines → HaveRisingRankings lines
unfolding IsStrictlySortedBy
rankings_rise [] a = tt
rankings_rise (line ∷ lines) a =
    (each-map (λ (r : List ℕ). before line.ranking r) (λ (l : BallotLine). l.ranking) lines a.0, rankings_rise lines a.1)

pub listed_rise : (ends : ℕ) (f : Forest) → IsRising 0 f → HaveRisingRankings (line_of ends [] ++ lines_of f)
listed_rise ends f rising = rankings_rise (line_of ends [] ++ lines_of f) (whole_follow ends f rising)

-- nodes of the same form are as many
pub nodes-HaveSameForm : (f g : Forest) → HaveSameForm f g → node_count f ≡ node_count g
nodes-HaveSameForm Empty Empty same = refl
nodes-HaveSameForm Empty (Grow d m q inner next) same = absurd same
nodes-HaveSameForm (Grow c n p inner next) Empty same = absurd same
nodes-HaveSameForm (Grow c n p inner next) (Grow d m q inner_2 next_2) same =
    omega (arith, nodes-HaveSameForm inner inner_2 same.2, nodes-HaveSameForm next next_2 same.3)

-- so each forest of a trie's ballots has its nodes
pub nodes_of_form :
    (ballots : List (List ℕ)) (ends nodes : ℕ) (own f : Forest) → ballots ≡ replicate ends [] ++ bag own
    → IsRising 0 own → nodes ≡ node_count own → IsRising 0 f
    → ballots ≡ replicate (count_of [] ballots) [] ++ bag f → nodes ≡ node_count f
nodes_of_form ballots ends nodes own f are rising counted rising_f are_f =
    let blank : count_of [] ballots ≡ ends = ap (count_of []) are ∙ count_of_blank ends own in
    let same : bag own ≡ bag f =
    append_cancel_left (replicate ends []) (bag own) (bag f)
    (sym are ∙ (are_f ∙ ap (λ (k : ℕ). replicate {A = List ℕ} k [] ++ bag f) blank)) in
    counted ∙ nodes-HaveSameForm own f (same_form 0 0 own f rising rising_f same)

-- a ranking of which a trie has a ballot is one of its candidates
pub held_ranking :
    (n total count : ℕ) (r : List ℕ) (ballots : List (List ℕ)) → IsSoundBag n total ballots → 1 ≤ count
    → count ≤ count_of r ballots → IsRanking n r
held_ranking n total count r ballots sound some held =
    has_each (IsRanking n) r ballots (recursion_from_All (IsRanking n) ballots sound.rankings) (omega arith)
