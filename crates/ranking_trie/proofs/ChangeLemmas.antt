-- Ballots that come to a node or go from it.
use Rattle.std.proofs.Common.{◌≡◌, ◌≢◌, ℕ, ◌+◌, ◌-◌, ◌<◌, ◌≤◌, List, [], ◌∷◌, ◌++◌, length, replicate, inl, inr}
use Rattle.std.proofs.Common.{arith, refl, ap, sym, subst, ◌∙◌}
use Rattle.std.specs.List.Sorted.{IsPermutation}
use Rattle.std.proofs.lemmas.Bool.{cases_eq}
use Rattle.std.proofs.lemmas.List.{length-append}
use Rattle.ranking_trie.specs.declared.arena.Arena.{Arena}
use Rattle.ranking_trie.specs.Arena.{forest_in, IsMoved, HasNode, join, top}
use Rattle.ranking_trie.specs.Bag.{bag, below, IsRising}
use Rattle.ranking_trie.specs.BallotBag.{count_of}
use Rattle.ranking_trie.specs.Forest.{Forest, Empty, Grow}
use Rattle.ranking_trie.specs.Places.{node_at, BeginsAt}
use Rattle.ranking_trie.proofs.BagLemmas.{placed, taken}
use Rattle.ranking_trie.proofs.CountLemmas.{count_of-rising, node_has}
use Rattle.ranking_trie.proofs.ListingLemmas.{length-below}
use Rattle.ranking_trie.proofs.JoinLemmas.{bag-join, rising_both, count_of-join}
use Rattle.ranking_trie.proofs.HangLemmas.{rising_behind}

-- one change after another
pub moved_on :
    (a b d : Arena) (first second third : ℕ) → IsMoved a first b second → IsMoved b second d third
    → IsMoved a first d third
moved_on a b d first second third one two = record {
  apart = two.apart;
  size = two.size ∙ one.size;
  places = λ q. two.places q ∙ one.places q;
  others = λ q some none. two.others q some (one.places q ∙ none) ∙ one.others q some none;
  count = two.count ∙ one.count;
}

-- a node's ballots are among those of its siblings
pub bag_at :
    (f : Forest) (c before place : ℕ) (h : HasNode f c before place)
    → bag f ≡ bag h.passed ++ (below c h.ends (bag h.inner) ++ bag h.next)
bag_at f c before place h = ap bag h.is ∙ bag-join h.passed (Grow c h.ends place h.inner h.next)

pub ends_few :
    (f : Forest) (c before place : ℕ) (h : HasNode f c before place)
    → h.ends + length (bag h.inner) ≤ length (bag f)
ends_few f c before place h =
    omega (
      arith,
      ap length (bag_at f c before place h),
      length-append (bag h.passed) (below c h.ends (bag h.inner) ++ bag h.next),
      length-append (below c h.ends (bag h.inner)) (bag h.next),
      length-below c h.ends (bag h.inner),
    )

-- the node with other ballots
pub node_kept :
    (f g : Forest) (c before place m : ℕ) (low : Forest) (h : HasNode f c before place)
    → g ≡ join h.passed (Grow c m place low h.next) → IsRising 0 low → HasNode g c before place
node_kept f g c before place m low h is rising = record {
  ends = m;
  passed = h.passed;
  inner = low;
  next = h.next;
  is = is;
  last = h.last;
  passed_rising = h.passed_rising;
  under = h.under;
  inner_rising = rising;
  next_rising = h.next_rising;
}

-- siblings rise where the node has a ballot
pub rising_with :
    (f g : Forest) (c before place m : ℕ) (low : Forest) (h : HasNode f c before place)
    → g ≡ join h.passed (Grow c m place low h.next) → IsRising 0 low → 1 ≤ m + length (bag low) → IsRising 0 g
rising_with f g c before place m low h is rising some =
    let node : Forest = Grow c m place low h.next in
    let own : IsRising (top 0 h.passed) node = (h.under, some, rising, h.next_rising) in
    subst (IsRising 0) (sym is) (rising_both 0 h.passed node h.passed_rising own)

pub rising_at :
    (f : Forest) (c before place : ℕ) (h : HasNode f c before place) → 1 ≤ h.ends + length (bag h.inner)
    → IsRising 0 f
rising_at f c before place h some = rising_with f f c before place h.ends h.inner h h.is h.inner_rising some

-- more ballots at the node
pub more_at :
    (f g : Forest) (c before place m : ℕ) (low : Forest) (more whole : List (List ℕ)) (h : HasNode f c before place)
    → g ≡ join h.passed (Grow c m place low h.next) → bag f ≡ whole
    → IsPermutation (below c m (bag low)) (more ++ below c h.ends (bag h.inner))
    → IsPermutation (bag g) (more ++ whole)
more_at f g c before place m low more whole h is same there =
    placed (bag h.passed) (below c h.ends (bag h.inner)) (below c m (bag low)) (bag h.next)
    (below c h.ends (bag h.inner) ++ bag h.next) whole (bag g) more
    (ap bag is ∙ bag-join h.passed (Grow c m place low h.next))
    (sym (bag_at f c before place h) ∙ same) refl there

-- and fewer
pub fewer_at :
    (f g : Forest) (c before place m : ℕ) (low : Forest) (more : List (List ℕ)) (h : HasNode f c before place)
    → g ≡ join h.passed (Grow c m place low h.next)
    → IsPermutation (below c h.ends (bag h.inner)) (more ++ below c m (bag low))
    → IsPermutation (bag f) (more ++ bag g)
fewer_at f g c before place m low more h is there =
    taken (bag h.passed) (below c h.ends (bag h.inner)) (below c m (bag low)) (bag h.next)
    (below c h.ends (bag h.inner) ++ bag h.next) (bag f) (bag g) more
    (sym (bag_at f c before place h)) refl
    (ap bag is ∙ bag-join h.passed (Grow c m place low h.next)) there

-- the ballots with a ranking that begins with the node's candidate are at the node
pub count_at :
    (f : Forest) (c before place : ℕ) (s : List ℕ) (h : HasNode f c before place)
    → count_of s (replicate h.ends [] ++ bag h.inner) ≡ count_of (c ∷ s) (bag f)
count_at f c before place s h =
    node_has c c h.ends s h.inner h.next refl h.next_rising
    ∙ (count_of-join c s h.passed (Grow c h.ends place h.inner h.next) h.passed_rising h.under
    ∙ ap (λ (g : Forest). count_of (c ∷ s) (bag g)) (sym h.is))

-- where siblings have such ballots, the candidate's node is the first that is not passed
pub is_there :
    (a : Arena) (first c before at : ℕ) (s : List ℕ) (passed : Forest) → BeginsAt a.nodes.items at
    → forest_in a first ≡ join passed (forest_in a at) → IsRising 0 passed → top 0 passed < c
    → IsRising (c - 1) (forest_in a at) → 1 ≤ count_of (c ∷ s) (bag (forest_in a first))
    → (1 ≤ at) × ((node_at a.nodes.items at).candidate ≡ c)
is_there a first c before at s passed begin is rising under above held =
    let nodes = a.nodes.items in
    let all : count_of (c ∷ s) (bag (forest_in a at)) ≡ count_of (c ∷ s) (bag (forest_in a first)) =
    count_of-join c s passed (forest_in a at) rising under
    ∙ ap (λ (g : Forest). count_of (c ∷ s) (bag g)) (sym is) in
    elim (cases_eq at 0) [
      | inl zero ↦
          let behind : IsRising c (forest_in a at) =
          rising_behind nodes c at begin above (λ some. absurd (omega (arith, some, zero))) in
          absurd (omega (arith, all, held, count_of-rising c c s (forest_in a at) (omega arith) behind))
      | inr some ↦
          elim (cases_eq (node_at nodes at).candidate c) [
            | inl own ↦ (omega (arith, some), own)
            | inr other ↦
                let behind : IsRising c (forest_in a at) = rising_behind nodes c at begin above (λ x. other) in
                absurd (omega (arith, all, held, count_of-rising c c s (forest_in a at) (omega arith) behind))
          ]
    ]

-- where there are siblings that rise, they have ballots
pub some_ballots : (low : ℕ) (f : Forest) → IsRising low f → f ≢ Empty → 1 ≤ length (bag f)
some_ballots low Empty rising some = absurd (some refl)
some_ballots low (Grow c n p inner next) rising some =
    omega (
      arith,
      rising.1,
      length-append (below c n (bag inner)) (bag next),
      length-below c n (bag inner),
    )
