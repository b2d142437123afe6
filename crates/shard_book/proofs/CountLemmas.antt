-- Ballots in another order, known from how many have each ranking.
use Rattle.std.proofs.Common.{◌≡◌, ℕ, ◌+◌, ◌≤◌, Bool, true, false, cond, nat_eq, List, [], ◌∷◌, ◌++◌, arith, refl, ap, subst}
use Rattle.std.specs.List.Sorted.{IsPermutation}
use Rattle.std.specs.Cmp.Lexicographic.{pointwise}
use Rattle.std.proofs.lemmas.List.Sorted.{IsPermutation-refl, IsPermutation-trans, IsPermutation-sym}
use Rattle.std.proofs.lemmas.List.Sorted.{IsPermutation-append_left, IsPermutation-append_right}
use Rattle.std.proofs.lemmas.List.Sorted.{IsPermutation-append_comm, sum_by-IsPermutation}
use Rattle.std.proofs.lemmas.Slice.Eq.{bytes_eq-Decides}
use Rattle.ranking_trie.specs.BallotBag.{count_of}
use Rattle.ranking_trie.proofs.CountLemmas.{one_for, one_for-own, count_of-append, count_of-cons}
use Rattle.shard_book.specs.Turnover.{AreExchanged}

-- a bag with one ballot of this ranking, and others
abbrev Has : List ℕ → List (List ℕ) → Type 0
Has q xs = (others : List (List ℕ)) × IsPermutation xs (q ∷ others)

has_first :
    (q x : List ℕ) (xs : List (List ℕ)) (b : Bool) → pointwise nat_eq x q ≡ b → (1 ≤ count_of q xs → Has q xs)
    → 1 ≤ count_of q (x ∷ xs) → Has q (x ∷ xs)
has_first q x xs true same rest some = (
  xs,
  subst (λ (y : List ℕ). IsPermutation (x ∷ xs) (y ∷ xs)) ((bytes_eq-Decides x q).0 same)
      (IsPermutation-refl (x ∷ xs)),
)
has_first q x xs false other rest some =
    let none : one_for q x ≡ 0 = ap (λ (b : Bool). cond b 1 0) other in
    let found = rest (omega (arith, count_of-cons q x xs)) in (
      x ∷ found.0,
      IsPermutation-trans (x ∷ xs) (x ∷ q ∷ found.0) (q ∷ x ∷ found.0)
          (IsPermutation-append_right (x ∷ []) xs (q ∷ found.0) found.1)
          (IsPermutation-append_left found.0 (x ∷ q ∷ []) (q ∷ x ∷ []) (IsPermutation-append_comm (x ∷ []) (q ∷ []))),
    )

-- a ballot that is counted is there
has : (q : List ℕ) (xs : List (List ℕ)) → 1 ≤ count_of q xs → Has q xs
has q [] some = absurd (omega arith)
has q (x ∷ xs) some = has_first q x xs (pointwise nat_eq x q) refl (has q xs) some

pub same_counts : (xs ys : List (List ℕ)) → ((q : List ℕ) → count_of q xs ≡ count_of q ys) → IsPermutation xs ys
same_counts [] [] same = IsPermutation-refl []
same_counts [] (y ∷ ys) same = absurd (omega (arith, same y, count_of-cons y y ys, one_for-own y))
same_counts (x ∷ xs) ys same =
    let found = has x ys (omega (arith, same x, count_of-cons x x xs, one_for-own x)) in
    let rest : (q : List ℕ) → count_of q xs ≡ count_of q found.0 =
    λ q. omega (
      arith,
      same q,
      sum_by-IsPermutation (one_for q) ys (x ∷ found.0) found.1,
      count_of-cons q x xs,
      count_of-cons q x found.0,
    ) in
    IsPermutation-trans (x ∷ xs) (x ∷ found.0) ys
    (IsPermutation-append_right (x ∷ []) xs found.0 (same_counts xs found.0 rest))
    (IsPermutation-sym ys (x ∷ found.0) found.1)

-- where a trie had the ballots that stood, and those that no longer stand were exchanged for new ones, it has
-- those that stand
pub stand_now : (old out into new stood stand : List (List ℕ)) → IsPermutation old stood → AreExchanged old out into new
    → ((q : List ℕ) → count_of q stand + count_of q out ≡ count_of q stood + count_of q into) → IsPermutation new stand
stand_now old out into new stood stand had exchanged moved = same_counts new stand
    (λ q. omega (
      arith,
      moved q,
      sum_by-IsPermutation (one_for q) old stood had,
      sum_by-IsPermutation (one_for q) old (out ++ exchanged.kept) exchanged.before,
      sum_by-IsPermutation (one_for q) new (into ++ exchanged.kept) exchanged.after,
      count_of-append q out exchanged.kept,
      count_of-append q into exchanged.kept,
    ))
