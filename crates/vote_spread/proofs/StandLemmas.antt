-- Stems of a node and of siblings, and the ballots that they stand for.
use Rattle.std.proofs.Common.{◌≡◌, ℕ, ◌+◌, ◌-◌, ◌*◌, ◌<◌, ◌≤◌, ◌==◌, cond, List, [], ◌∷◌, ◌++◌, length}
use Rattle.std.proofs.Common.{get_or, drop, take, sum, sum_by, map, replicate, arith, refl, ap, sym, subst}
use Rattle.std.proofs.Common.{◌∙◌, zero, suc, append_assoc, zero-add}
use Rattle.std.specs.List.{All}
use Rattle.std.proofs.lemmas.List.{length-append, length-replicate, take_at, drop_at}
use Rattle.std.proofs.lemmas.List.Elements.{All-cons, All-append, All-weaker}
use Rattle.std.proofs.lemmas.List.Sums.{sum_by-append, sum_by-cons}
use Rattle.std.proofs.lemmas.List.Folds.{sum_by-replicate}
use Rattle.std.proofs.Math.Nat.{add-mul}
use Rattle.meek_rule.specs.Weights.{kept, given}
use Rattle.vote_spread.specs.Stem.{Stem}
use Rattle.vote_spread.specs.Walk.{IsFrom, IsWalk}
use Rattle.vote_spread.specs.Gain.{gain, past, gains}
use Rattle.vote_spread.specs.Packed.{StandFor}
use Rattle.vote_spread.proofs.GainLemmas.{walk_from, past-here, past-other, length-past, gains_agree}
use Rattle.vote_spread.proofs.WalkLemmas.{from_more}

-- no stems stand for no ballots
pub stand-nothing : (n d : ℕ) → StandFor n d [] []
stand-nothing n d = record {
  deep = λ k e lt. absurd (omega arith);
  from = λ rest is. is;
  walk = λ rest is walk. walk;
  gives = λ s keeps c weights rest is walk long. omega arith;
}

-- siblings after siblings
pub stand-append :
    (n d : ℕ) (xs ys : List Stem) (some more : List (List ℕ)) → StandFor n d xs some → StandFor n d ys more
    → StandFor n d (xs ++ ys) (some ++ more)
stand-append n d xs ys some more one two =
    let split : (rest : List Stem) → (xs ++ ys) ++ rest ≡ xs ++ (ys ++ rest) = λ rest. append_assoc xs ys rest in
    record {
      deep = All-append (λ (x : Stem). d ≤ x.depth) xs ys one.deep two.deep;
      from = λ rest is. subst (IsFrom d) (sym (split rest)) (one.from (ys ++ rest) (two.from rest is));
      walk =
          λ rest is walk. subst (IsWalk n d) (sym (split rest))
          (one.walk (ys ++ rest) (two.from rest is) (two.walk rest is walk));
      gives =
          λ s keeps c weights rest is walk long.
          let f : List ℕ → ℕ = λ r. given s keeps (get_or weights (d - 1) 0) r c in
          let all = ap (λ l. sum (gains s keeps c weights l)) (split rest) in
          let first = one.gives s keeps c weights (ys ++ rest) (two.from rest is) (two.walk rest is walk) long in
          let next = two.gives s keeps c weights rest is walk long in
          omega (arith, sum_by-append f some more);
    }

-- what ballots that begin with a candidate give
pub given-below :
    (s : ℕ) (keeps : List ℕ) (w k c : ℕ) (xs : List (List ℕ))
    → sum_by (λ r. given s keeps w r c) (map (λ r. k ∷ r) xs)
    ≡ length xs * cond (k == c) (kept s keeps w k) 0
    + sum_by (λ r. given s keeps (w - kept s keeps w k) r c) xs
given-below s keeps w k c [] = omega arith
given-below s keeps w k c (x ∷ xs) =
    let here = cond (k == c) (kept s keeps w k) 0 in
    let a = sum_by-cons (λ r. given s keeps w r c) (k ∷ x) (map (λ r. k ∷ r) xs) in
    let b = sum_by-cons (λ r. given s keeps (w - kept s keeps w k) r c) x xs in
    let l : length (x ∷ xs) ≡ length xs + 1 = omega arith in
    let ml : length (x ∷ xs) * here ≡ length xs * here + here =
    ap (λ q. q * here) l ∙ (add-mul (length xs) 1 here ∙ omega arith) in
    omega (arith, given-below s keeps w k c xs)

-- empty ballots give nothing
pub given-ends :
    (s : ℕ) (keeps : List ℕ) (w c n : ℕ) (xs : List (List ℕ))
    → sum_by (λ r. given s keeps w r c) (replicate n [] ++ xs) ≡ sum_by (λ r. given s keeps w r c) xs
given-ends s keeps w c zero xs = refl
given-ends s keeps w c (suc n) xs =
    sum_by-cons (λ r. given s keeps w r c) [] (replicate n [] ++ xs)
    ∙ (zero-add _ ∙ given-ends s keeps w c n xs)

-- a walk may begin deeper
pub deeper_walk : (n d : ℕ) (stems : List Stem) → IsWalk n d stems → IsWalk n (d + 1) stems
deeper_walk n d [] walk = tt
deeper_walk n d (stem ∷ stems) walk = walk_from n d (d + 1) (stem ∷ stems) walk (omega (arith, walk.0.not_too_deep))

-- what is after a node is as it would be without the node
behind_node :
    (n d s : ℕ) (keeps : List ℕ) (c : ℕ) (weights : List ℕ) (stem : Stem) (rest : List Stem) → stem.depth ≡ d
    → IsWalk n d rest → 250 < length weights
    → gains s keeps c (past s keeps weights stem) rest ≡ gains s keeps c weights rest
behind_node n d s keeps c weights stem rest at walk long =
    gains_agree n d s keeps c (past s keeps weights stem) weights rest walk (rw length-past long)
    (length-past s keeps weights stem)
    (λ j lt. past-other s keeps weights stem j (omega arith))

-- A node: the stem of its candidate k, at which some ballots end and below which others go on.
pub stand-node :
    (n d k ends : ℕ) (low : List Stem) (inner : List (List ℕ)) → 1 ≤ d → d ≤ 250 → 1 ≤ k → k ≤ n
    → StandFor n (d + 1) low inner
    → StandFor n d (record
    { depth = d; candidate = k; ballots = ends + length inner; skip = length low + 1; tail = [] }
    ∷ low) (map (λ r. k ∷ r) (replicate ends [] ++ inner))
stand-node n d k ends low inner one shallow number known stand =
    let stem : Stem = record { depth = d; candidate = k; ballots = ends + length inner; skip = length low + 1; tail = [] } in
    let skip : (length low + 1) - 1 ≡ length low = omega arith in
    let cut : (rest : List Stem) → low ≡ take ((length low + 1) - 1) (low ++ rest) =
    λ rest. sym (ap (λ m. take m (low ++ rest)) skip ∙ take_at low rest (length low) refl) in
    let left_over : (rest : List Stem) → rest ≡ drop ((length low + 1) - 1) (low ++ rest) =
    λ rest. sym (ap (λ m. drop m (low ++ rest)) skip ∙ drop_at low rest (length low) refl) in
    record {
      deep =
          All-cons (λ (x : Stem). d ≤ x.depth) stem low (omega arith) (All-weaker
          (λ (x : Stem). d + 1 ≤ x.depth) (λ (x : Stem). d ≤ x.depth) (λ x le. omega arith) low
          stand.deep);
      from = λ rest is. omega arith;
      walk =
          λ rest is walk. (
            record {
              below_root = one;
              not_too_deep = omega arith;
              shallow = omega arith;
              candidate = number;
              known = known;
              ranks = λ j e lt. absurd (omega arith);
              itself = omega arith;
              inside = omega (arith, length-append low rest);
              deeper = subst (λ (l : List Stem). All (λ other. d + 1 ≤ other.depth) l) (cut rest) stand.deep;
              behind = subst (λ (l : List Stem). IsFrom d l) (left_over rest) is;
            },
            stand.walk rest (from_more d rest is) (deeper_walk n d rest walk),
          );
      gives =
          λ s keeps c weights rest is walk long.
          let w = get_or weights (d - 1) 0 in
          let part = kept s keeps w k in
          let vs = past s keeps weights stem in
          let f1 : List ℕ → ℕ = λ r. given s keeps (w - part) r c in
          let ended : List (List ℕ) = replicate ends [] in
          let xs : List (List ℕ) = ended ++ inner in
          let share = cond (k == c) part 0 in
          let head :
          sum (gains s keeps c weights (stem ∷ (low ++ rest)))
          ≡ gain s keeps c weights stem + sum (gains s keeps c vs (low ++ rest)) =
          sum_by-cons (λ x. x) (gain s keeps c weights stem) (gains s keeps c vs (low ++ rest)) in
          let leaves : get_or vs (d + 1 - 1) 0 ≡ w - part =
          ap (λ j. get_or vs j 0) (omega arith) ∙ past-here s keeps weights stem (omega arith) in
          let lower : sum (gains s keeps c vs (low ++ rest)) ≡ sum_by f1 inner + sum (gains s keeps c vs rest) =
          stand.gives s keeps c vs rest (from_more d rest is) (deeper_walk n d rest walk) (rw length-past long)
          ∙ ap (λ v. sum_by (λ r. given s keeps v r c) inner + sum (gains s keeps c vs rest)) leaves in
          let same : sum (gains s keeps c vs rest) ≡ sum (gains s keeps c weights rest) =
          ap sum (behind_node n d s keeps c weights stem rest refl walk long) in
          let many : length xs ≡ ends + length inner =
          omega (arith, length-append ended inner, length-replicate {A = List ℕ} ends []) in
          let here : gain s keeps c weights stem ≡ length xs * share =
          ap (λ q. q * (share + 0)) (sym many) ∙ ap (λ q. length xs * q) (omega arith) in
          let below = given-below s keeps w k c xs in
          let none = given-ends s keeps (w - part) c ends inner in
          omega arith;
    }

-- A node whose ballots all go on with the same candidates and end there.
pub stand-tail :
    (n d k m : ℕ) (tail : List ℕ) → 1 ≤ d → d + length tail ≤ 250 → 1 ≤ k → k ≤ n
    → All (λ r. (1 ≤ r) × (r ≤ n)) tail
    → StandFor n d (record { depth = d; candidate = k; ballots = m; skip = 1; tail = tail } ∷ [])
    (replicate m (k ∷ tail))
stand-tail n d k m tail one shallow number known ranks =
    let stem : Stem = record { depth = d; candidate = k; ballots = m; skip = 1; tail = tail } in
    record {
      deep = All-cons (λ (x : Stem). d ≤ x.depth) stem [] (omega arith) (λ j e lt. absurd (omega arith));
      from = λ rest is. omega arith;
      walk =
          λ rest is walk. (
            record {
              below_root = one;
              not_too_deep = omega arith;
              shallow = shallow;
              candidate = number;
              known = known;
              ranks = ranks;
              itself = omega arith;
              inside = omega arith;
              deeper = λ j e lt. absurd (omega arith);
              behind = is;
            },
            deeper_walk n d rest walk,
          );
      gives =
          λ s keeps c weights rest is walk long.
          let f : List ℕ → ℕ = λ r. given s keeps (get_or weights (d - 1) 0) r c in
          sum_by-cons (λ x. x) (gain s keeps c weights stem) (gains s keeps c (past s keeps weights stem) rest)
          ∙ (ap (λ q. gain s keeps c weights stem + q) (ap sum (behind_node n d s keeps c weights stem rest refl walk long))
          ∙ ap (λ q. q + sum (gains s keeps c weights rest)) (sym (sum_by-replicate f m (k ∷ tail))));
    }
