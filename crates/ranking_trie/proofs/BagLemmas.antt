-- A bag when ballots are put into it.
use Rattle.std.proofs.Common.{◌≡◌, ℕ, ◌+◌, ◌-◌, ◌<◌, ◌≤◌, List, [], ◌∷◌, ◌++◌, length, replicate, zero, suc}
use Rattle.std.proofs.Common.{map, append_assoc, arith, refl, ap, sym, subst, ◌∙◌}
use Rattle.std.specs.List.Sorted.{IsPermutation}
use Rattle.std.specs.List.{All}
use Rattle.plain_ballots.specs.Ranking.{IsRanking}
use Rattle.ranking_trie.specs.BallotBag.{IsSoundBag}
use Rattle.std.proofs.lemmas.List.Elements.{All-append}
use Rattle.std.proofs.lemmas.List.{map-append, replicate-append-replicate, length-append, length-replicate, get_or-replicate}
use Rattle.std.proofs.lemmas.List.Sorted.{IsPermutation-refl, IsPermutation-trans, IsPermutation-map}
use Rattle.std.proofs.lemmas.List.Sorted.{IsPermutation-append_left, IsPermutation-append_right}
use Rattle.std.proofs.lemmas.List.Sorted.{IsPermutation-append_comm, IsPermutation-sym, All-permutation}
use Rattle.std.proofs.lemmas.List.Sorted.{length_permutation}
use Rattle.ranking_trie.proofs.ListLemmas.{All-right}
use Rattle.ranking_trie.specs.Forest.{Forest, Empty, Grow}
use Rattle.ranking_trie.specs.Bag.{below, IsRising}

pub map-replicate : {X Y : Type 0} (f : X → Y) (k : ℕ) (x : X) → map f (replicate k x) ≡ replicate k (f x)
map-replicate f zero x = refl
map-replicate f (suc k) x = ap (λ ys. f x ∷ ys) (map-replicate f k x)

-- the second part may come first
pub IsPermutation-shift : {X : Type 0} (xs ys zs : List X) → IsPermutation (xs ++ (ys ++ zs)) (ys ++ (xs ++ zs))
IsPermutation-shift {X} xs ys zs =
    subst (λ (l : List X). IsPermutation l (ys ++ (xs ++ zs))) (append_assoc xs ys zs)
    (subst (λ (r : List X). IsPermutation ((xs ++ ys) ++ zs) r) (append_assoc ys xs zs)
    (IsPermutation-append_left zs (xs ++ ys) (ys ++ xs) (IsPermutation-append_comm xs ys)))

-- ballots that end at a node
pub below_more_ends :
    (c n count : ℕ) (inner : List (List ℕ))
    → below c (n + count) inner ≡ replicate count (c ∷ []) ++ below c n inner
below_more_ends c n count inner =
    let f : List ℕ → List ℕ = λ r. c ∷ r in
    let many : replicate (n + count) [] ≡ replicate count [] ++ replicate n [] =
    ap (λ m. replicate m []) (omega arith) ∙ sym (replicate-append-replicate count n []) in
    ap (λ l. map f (l ++ inner)) many
    ∙ (ap (map f) (append_assoc (replicate count []) (replicate n []) inner)
    ∙ (map-append f (replicate count []) (replicate n [] ++ inner)
    ∙ ap (λ l. l ++ below c n inner) (map-replicate f count [])))

-- ballots that go on below a node
pub below_more_inner :
    (c n count : ℕ) (r : List ℕ) (old new : List (List ℕ)) → IsPermutation new (replicate count r ++ old)
    → IsPermutation (below c n new) (replicate count (c ∷ r) ++ below c n old)
below_more_inner c n count r old new same =
    let f : List ℕ → List ℕ = λ r. c ∷ r in
    let put = IsPermutation-append_right (replicate n []) new (replicate count r ++ old) same in
    let moved =
    IsPermutation-trans (replicate n [] ++ new) (replicate n [] ++ (replicate count r ++ old))
    (replicate count r ++ (replicate n [] ++ old)) put
    (IsPermutation-shift (replicate n []) (replicate count r) old) in
    subst (λ (l : List (List ℕ)). IsPermutation (below c n new) l)
    (map-append f (replicate count r) (replicate n [] ++ old) ∙ ap (λ l. l ++ below c n old) (map-replicate f count r))
    (IsPermutation-map f (replicate n [] ++ new) (replicate count r ++ (replicate n [] ++ old)) moved)

-- the same among siblings
pub siblings_more :
    (before here there after more : List (List ℕ)) → IsPermutation there (more ++ here)
    → IsPermutation (before ++ (there ++ after)) (more ++ (before ++ (here ++ after)))
siblings_more before here there after more same =
    let one : IsPermutation (there ++ after) (more ++ (here ++ after)) =
    subst (λ (l : List (List ℕ)). IsPermutation (there ++ after) l) (append_assoc more here after)
    (IsPermutation-append_left after there (more ++ here) same) in
    IsPermutation-trans (before ++ (there ++ after)) (before ++ (more ++ (here ++ after)))
    (more ++ (before ++ (here ++ after)))
    (IsPermutation-append_right before (there ++ after) (more ++ (here ++ after)) one)
    (IsPermutation-shift before more (here ++ after))

-- the siblings when ballots were put into one of them
pub placed :
    (before here there after rest whole result more : List (List ℕ)) → result ≡ before ++ (there ++ after)
    → before ++ rest ≡ whole → here ++ after ≡ rest → IsPermutation there (more ++ here)
    → IsPermutation result (more ++ whole)
placed before here there after rest whole result more is all parts same =
    subst (λ (l : List (List ℕ)). IsPermutation l (more ++ whole)) (sym is)
    (subst (λ (l : List (List ℕ)). IsPermutation (before ++ (there ++ after)) (more ++ l))
    (ap (λ l. before ++ l) parts ∙ all)
    (siblings_more before here there after more same))

-- ballots put in after others
pub put_behind :
    (before here there more : List (List ℕ)) → IsPermutation there (more ++ here)
    → IsPermutation (before ++ there) (more ++ (before ++ here))
put_behind before here there more same =
    IsPermutation-trans (before ++ there) (before ++ (more ++ here)) (more ++ (before ++ here))
    (IsPermutation-append_right before there (more ++ here) same)
    (IsPermutation-shift before more here)

pub All-replicate :
    (n : ℕ) (r : List ℕ) (count : ℕ) → IsRanking n r → All (λ (x : List ℕ). IsRanking n x) (replicate count r)
All-replicate n r count ranking k d lt =
    let d' = length-replicate count r in
    subst (λ (x : List ℕ). IsRanking n x) (sym (get_or-replicate count k r d (omega arith))) ranking

-- a trie with more ballots
pub trie_more :
    (n total count : ℕ) (r : List ℕ) (old new : List (List ℕ)) → IsSoundBag n total old → IsRanking n r
    → length old + count ≤ 999999999 → IsPermutation new (replicate count r ++ old)
    → IsSoundBag n (total + count) new
trie_more n total count r old new trie ranking few same =
    let a = length_permutation new (replicate count r ++ old) same in
    let b = length-append (replicate count r) old in
    let d = length-replicate count r in
    let counted = trie.counted in
    record {
      some = trie.some;
      few_candidates = trie.few_candidates;
      counted = omega arith;
      few = omega arith;
      rankings =
          All-permutation (λ (x : List ℕ). IsRanking n x) (replicate count r ++ old) new
          (IsPermutation-sym new (replicate count r ++ old) same)
          (All-append (λ (x : List ℕ). IsRanking n x) (replicate count r) old
          (All-replicate n r count ranking) trie.rankings);
    }

-- empty ballots put in
pub put_empty :
    (ends count : ℕ) (others : List (List ℕ))
    → IsPermutation (replicate (ends + count) [] ++ others)
    (replicate count [] ++ (replicate ends [] ++ others))
put_empty ends count others =
    let many : replicate {A = List ℕ} (ends + count) [] ≡ replicate count [] ++ replicate ends [] =
    ap (λ m. replicate m []) (omega arith) ∙ sym (replicate-append-replicate count ends []) in
    subst (λ (l : List (List ℕ)). IsPermutation (replicate (ends + count) [] ++ others) l)
    (ap (λ l. l ++ others) many ∙ append_assoc (replicate count []) (replicate ends []) others)
    (IsPermutation-refl (replicate (ends + count) [] ++ others))

pub rising_less : (a b : ℕ) (f : Forest) → a ≤ b → IsRising b f → IsRising a f
rising_less a b Empty le rising = tt
rising_less a b (Grow c n p inner next) le rising =
    let less : b < c = rising.0 in
    (omega arith, rising.1, rising.2, rising.3)

-- the siblings when ballots were taken out of one of them
pub taken :
    (before here there after rest whole result more : List (List ℕ)) → before ++ rest ≡ whole
    → here ++ after ≡ rest → result ≡ before ++ (there ++ after) → IsPermutation here (more ++ there)
    → IsPermutation whole (more ++ result)
taken before here there after rest whole result more all parts is same =
    placed before there here after (there ++ after) result whole more
    (sym all ∙ ap (λ l. before ++ l) (sym parts)) (sym is) refl same

-- fewer ballots that end at a node
pub below_fewer_ends :
    (c n count : ℕ) (inner : List (List ℕ)) → count ≤ n
    → IsPermutation (below c n inner) (replicate count (c ∷ []) ++ below c (n - count) inner)
below_fewer_ends c n count inner some =
    let back : (n - count) + count ≡ n = omega arith in
    subst (λ (m : ℕ). IsPermutation (below c m inner) (replicate count (c ∷ []) ++ below c (n - count) inner)) back
    (subst (λ (l : List (List ℕ)). IsPermutation (below c ((n - count) + count) inner) l)
    (below_more_ends c (n - count) count inner)
    (IsPermutation-refl (below c ((n - count) + count) inner)))

-- empty ballots taken out
pub take_empty :
    (ends count : ℕ) (others : List (List ℕ)) → count ≤ ends
    → IsPermutation (replicate ends [] ++ others)
    (replicate count [] ++ (replicate (ends - count) [] ++ others))
take_empty ends count others some =
    let back : (ends - count) + count ≡ ends = omega arith in
    subst (λ (m : ℕ). IsPermutation (replicate {A = List ℕ} m [] ++ others)
    (replicate count [] ++ (replicate (ends - count) [] ++ others))) back
    (put_empty (ends - count) count others)

-- a trie with fewer ballots
pub trie_fewer :
    (n total count : ℕ) (r : List ℕ) (old new : List (List ℕ)) → IsSoundBag n total old
    → IsPermutation old (replicate count r ++ new) → IsSoundBag n (total - count) new
trie_fewer n total count r old new trie same =
    let a = length_permutation old (replicate count r ++ new) same in
    let b = length-append (replicate count r) new in
    let d = length-replicate count r in
    let counted = trie.counted in
    let few = trie.few in
    record {
      some = trie.some;
      few_candidates = trie.few_candidates;
      counted = omega arith;
      few = omega arith;
      rankings =
          All-right (λ (x : List ℕ). IsRanking n x) (replicate count r) new
          (All-permutation (λ (x : List ℕ). IsRanking n x) old (replicate count r ++ new) same trie.rankings);
    }
