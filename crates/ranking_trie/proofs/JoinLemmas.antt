-- Siblings before others.
use Rattle.std.proofs.Common.{◌≡◌, ◌≢◌, ℕ, ◌+◌, ◌<◌, ◌≤◌, List, ◌∷◌, ◌++◌, length, replicate, []}
use Rattle.std.proofs.Common.{append_assoc, arith, refl, ap, sym, subst, ◌∙◌}
use Rattle.ranking_trie.specs.declared.node.Node.{Node}
use Rattle.ranking_trie.specs.Arena.{join, last_place, top}
use Rattle.ranking_trie.specs.Bag.{bag, below, node_count, IsRising}
use Rattle.ranking_trie.specs.BallotBag.{count_of}
use Rattle.ranking_trie.specs.Forest.{Forest, Empty, Grow}
use Rattle.ranking_trie.specs.Places.{root, node_at, LiesIn, times}
use Rattle.ranking_trie.proofs.CountLemmas.{count_of-append, count_of-other}
use Rattle.ranking_trie.proofs.PlaceLemmas.{here, lies_same}

pub times-join : (q : ℕ) (a b : Forest) → times q (join a b) ≡ times q a + times q b
times-join q Empty b = omega arith
times-join q (Grow c n p inner next) b = omega (arith, times-join q next b)

pub count-join : (a b : Forest) → node_count (join a b) ≡ node_count a + node_count b
count-join Empty b = omega arith
count-join (Grow c n p inner next) b = omega (arith, count-join next b)

pub bag-join : (a b : Forest) → bag (join a b) ≡ bag a ++ bag b
bag-join Empty b = refl
bag-join (Grow c n p inner next) b =
    ap (λ (l : List (List ℕ)). below c n (bag inner) ++ l) (bag-join next b)
    ∙ sym (append_assoc (below c n (bag inner)) (bag next) (bag b))

pub join_assoc : (a b c : Forest) → join (join a b) c ≡ join a (join b c)
join_assoc Empty b c = refl
join_assoc (Grow d n p inner next) b c = ap (λ (f : Forest). Grow d n p inner f) (join_assoc next b c)

pub root-join : (a b c : Forest) → root b ≡ root c → root (join a b) ≡ root (join a c)
root-join Empty b c same = same
root-join (Grow d n p inner next) b c same = refl

pub last-join : (a : Forest) (c n p : ℕ) (inner : Forest) → last_place (join a (Grow c n p inner Empty)) ≡ p
last-join Empty c n p inner = refl
last-join (Grow d m q low Empty) c n p inner = refl
last-join (Grow d m q low (Grow e k r deep next)) c n p inner = last-join (Grow e k r deep next) c n p inner

pub top-join : (low : ℕ) (a : Forest) (c n p : ℕ) (inner : Forest) → top low (join a (Grow c n p inner Empty)) ≡ c
top-join low Empty c n p inner = refl
top-join low (Grow d m q below next) c n p inner = top-join d next c n p inner

-- they begin alike where there is one before
pub root-join_some : (a b c : Forest) → 1 ≤ last_place a → root (join a b) ≡ root (join a c)
root-join_some Empty b c some = absurd (omega arith)
root-join_some (Grow d n p inner next) b c some = refl

-- the last of siblings is one of them
pub last_in : (a : Forest) → 1 ≤ last_place a → 1 ≤ times (last_place a) a
last_in Empty some = absurd (omega arith)
last_in (Grow c n p inner Empty) some = omega (arith, here p p refl)
last_in (Grow c n p inner (Grow d m q low next)) some = omega (arith, last_in (Grow d m q low next) some)

-- and there is one where there are some
pub none_last : (nodes : List Node) (a b : Forest) → LiesIn nodes (join a b) → last_place a ≡ 0 → a ≡ Empty
none_last nodes Empty b lies none = refl
none_last nodes (Grow c n p inner Empty) b lies none = absurd (omega (arith, lies.0, none))
none_last nodes (Grow c n p inner (Grow d m q low next)) b lies none =
    let empty : Grow d m q low next ≡ Empty = none_last nodes (Grow d m q low next) b lies.4 none in
    absurd (omega (arith, ap node_count empty))

pub lies_rest : (nodes : List Node) (a b : Forest) → LiesIn nodes (join a b) → LiesIn nodes b
lies_rest nodes Empty b lies = lies
lies_rest nodes (Grow c n p inner next) b lies = lies_rest nodes next b lies.4

-- others that begin at the same place
pub lies_swap :
    (nodes new : List Node) (a b c : Forest) → length nodes ≤ length new → root c ≡ root b
    → ((q : ℕ) → 1 ≤ times q a → node_at new q ≡ node_at nodes q) → LiesIn nodes (join a b) → LiesIn new c
    → LiesIn new (join a c)
lies_swap nodes new Empty b c size begin same lies rest = rest
lies_swap nodes new (Grow d n p inner next) b c size begin same lies rest =
    let inside : p ≤ length nodes = lies.1 in (
      lies.0,
      omega arith,
      same p (omega (arith, here p p refl))
          ∙ (lies.2
          ∙ ap (λ (r : ℕ). record { candidate = d; ends = n; first = root inner; next = r })
          (sym (root-join next c b begin))),
      lies_same nodes new inner size (λ q some. same q (omega (arith, some))) lies.3,
      lies_swap nodes new next b c size begin (λ q some. same q (omega (arith, some))) lies.4 rest,
    )

-- others to which the last one is led
pub lies_link :
    (nodes new : List Node) (a b c : Forest) (before : ℕ) → length nodes ≤ length new → last_place a ≡ before
    → 1 ≤ before → ((q : ℕ) → times q a ≤ 1)
    → ((q : ℕ) → 1 ≤ times q a → q ≢ before → node_at new q ≡ node_at nodes q)
    → node_at new before ≡ record (node_at nodes before) { next = root c } → LiesIn nodes (join a b)
    → LiesIn new c → LiesIn new (join a c)
lies_link nodes new Empty b c before size last some once same led lies rest = absurd (omega (arith, last))
lies_link nodes new (Grow d n p inner Empty) b c before size last some once same led lies rest =
    let inside : p ≤ length nodes = lies.1 in (
      lies.0,
      omega arith,
      subst (λ (r : ℕ). node_at new r ≡ record (node_at nodes r) { next = root c }) (sym last) led
          ∙ ap (λ (x : Node). record x { next = root c }) lies.2,
      lies_same nodes new inner size (λ q in_q. same q (omega (arith, in_q))
          (λ e. omega (arith, in_q, once q, here q p (e ∙ sym last)))) lies.3,
      rest,
    )
lies_link nodes new (Grow d n p inner (Grow e m k low next)) b c before size last some once same led lies rest =
    let tail : Forest = Grow e m k low next in
    let found : 1 ≤ times before tail =
    subst (λ (r : ℕ). 1 ≤ times r tail) last (last_in tail (omega (arith, last))) in
    let inside : p ≤ length nodes = lies.1 in (
      lies.0,
      omega arith,
      same p (omega (arith, here p p refl)) (λ x. omega (arith, found, once before, here before p (sym x))) ∙ lies.2,
      lies_same nodes new inner size (λ q in_q. same q (omega (arith, in_q))
          (λ x. omega (arith, found, once before, subst (λ (r : ℕ). 1 ≤ times r inner) x in_q))) lies.3,
      lies_link nodes new (Grow e m k low next) b c before size last some (λ q. omega (arith, once q))
          (λ q in_q. same q (omega (arith, in_q))) led lies.4 rest,
    )

-- the last candidate is none below those before it
pub top-le : (low : ℕ) (a : Forest) → IsRising low a → low ≤ top low a
top-le low Empty rising = omega arith
top-le low (Grow c n p inner next) rising = omega (arith, rising.0, top-le c next rising.3)

pub rising_front : (low : ℕ) (a b : Forest) → IsRising low (join a b) → IsRising low a
rising_front low Empty b rising = tt
rising_front low (Grow c n p inner next) b rising = (rising.0, rising.1, rising.2, rising_front c next b rising.3)

pub rising_rest : (low : ℕ) (a b : Forest) → IsRising low (join a b) → IsRising (top low a) b
rising_rest low Empty b rising = rising
rising_rest low (Grow c n p inner next) b rising = rising_rest c next b rising.3

pub rising_both : (low : ℕ) (a b : Forest) → IsRising low a → IsRising (top low a) b → IsRising low (join a b)
rising_both low Empty b front rest = rest
rising_both low (Grow c n p inner next) b front rest = (front.0, front.1, front.2, rising_both c next b front.3 rest)

-- siblings below a candidate have none of its ballots
pub count_of-under :
    (c low : ℕ) (s : List ℕ) (a : Forest) → IsRising low a → top low a < c → count_of (c ∷ s) (bag a) ≡ 0
count_of-under c low s Empty rising under = refl
count_of-under c low s (Grow d n p inner next) rising under =
    let less : d ≤ top d next = top-le d next rising.3 in
    omega (
      arith,
      count_of-append (c ∷ s) (below d n (bag inner)) (bag next),
      count_of-other c d s (replicate n [] ++ bag inner) (λ e. omega (arith, e)),
      count_of-under c d s next rising.3 under,
    )

pub count_of-join :
    (c : ℕ) (s : List ℕ) (a b : Forest) → IsRising 0 a → top 0 a < c
    → count_of (c ∷ s) (bag b) ≡ count_of (c ∷ s) (bag (join a b))
count_of-join c s a b rising under =
    omega (
      arith,
      ap (count_of (c ∷ s)) (bag-join a b),
      count_of-append (c ∷ s) (bag a) (bag b),
      count_of-under c 0 s a rising under,
    )
