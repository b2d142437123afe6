-- Candidates who are placed at their ranks.
use Rattle.std.proofs.Common.{◌≡◌, ◌≢◌, ℕ, zero, suc, ◌+◌, ◌-◌, ◌<◌, ◌≤◌, ◌==◌, ◌&&◌, ◌↔◌, not, Bool, true, false, cond, eqb}
use Rattle.std.proofs.Common.{List, [], ◌∷◌, ◌++◌, length, map, take, drop, get_or, replicate, Option, Some, None, All}
use Rattle.std.proofs.Common.{refl, ap, sym, ◌∙◌, subst, arith}
use Rattle.std.specs.Bool.{IsTrue}
use Rattle.std.specs.List.{between, filter_map, enumerate_from, cons_option, range_with_len}
use Rattle.std.proofs.Math.Seq.{get_or-append_seam}
use Rattle.std.proofs.lemmas.Bool.{and_from, and_parts, eq-eqb, eqb-true, false≢true, ne_eqb}
use Rattle.std.proofs.lemmas.List.{drop_more, get_or_append_left, get_or_default, length-append, length-map}
use Rattle.std.proofs.lemmas.List.Edits.{get_or-between, length-between}
use Rattle.std.proofs.lemmas.List.Elements.{All-head, All-push, All-tail}
use Rattle.plain_ballots.specs.Ranking.{IsRanking}
use Rattle.plain_ballots.specs.declared.limits.TheConstants.{MOST_CANDIDATES}
use Rattle.ballot_marks.specs.declared.says.Says.{Says}
use Rattle.ballot_marks.specs.declared.says.Says.TheVariants.{One}
use Rattle.ballot_table.specs.PlainRows.{rank_or_none}
use Rattle.ballot_table.specs.Rows.{holder, holders, said_by_holders, said_up_to}
use Rattle.ballot_table.proofs.Placing.{ArePlaced, one_or_none}
use Rattle.ballot_table.proofs.SayingLemmas.{plainly}
use Rattle.ballot_table.proofs.WithinLemmas.{IsFrom, holders_from}

-- ---- what the ranks say

module _ (numbers placed : List ℕ) (last : ℕ) (is : ArePlaced numbers placed last) where
  abbrev all : List (Option ℕ)
  all = map rank_or_none numbers

  abbrev said : ℕ → Option Says
  said rank = said_by_holders (holders rank all)

  abbrev at : ℕ → ℕ
  at rank = get_or placed rank 0

  blank : (rank : ℕ) → last < rank → said rank ≡ None
  blank rank behind =
      ap said_by_holders (is.each rank (omega (arith, behind)) ∙ ap one_or_none (is.behind rank behind))

  held : (rank : ℕ) → 1 ≤ rank → at rank ≢ 0 → holders rank all ≡ at rank ∷ []
  held rank from_one some =
      is.each rank from_one ∙ ap (λ (b : Bool). cond b [] (at rank ∷ [])) (ne_eqb (at rank) 0 some)

  blank_behind : (from j : ℕ) → last < from → map said (range_with_len from j) ≡ replicate j None
  blank_behind from zero behind = refl
  blank_behind from (suc j) behind =
      ap (λ (o : Option Says). o ∷ map said (range_with_len (from + 1) j)) (blank from behind)
      ∙ ap (λ (l : List (Option Says)). None ∷ l) (blank_behind (from + 1) j (omega (arith, behind)))

  all_said : (k from j m : ℕ) → 1 ≤ from → from + k ≡ last + 1 → k + j ≡ m → All (λ c. c ≢ 0) (take k (drop from placed))
      → map said (range_with_len from m) ≡ plainly (take k (drop from placed)) j
  all_said zero from j m from_one ends whole some =
      let same : m ≡ j = omega (arith, whole) in
      ap (λ (n : ℕ). map said (range_with_len from n)) same ∙ blank_behind from j (omega (arith, ends))
  all_said (suc k) from j zero from_one ends whole some = absurd (omega (arith, whole))
  all_said (suc k) from j (suc m) from_one ends whole some =
      let size = is.size in
      let inside = is.inside in
      let turned : drop from placed ≡ at from ∷ drop (from + 1) placed =
      drop_more placed from 0 (omega (arith, size, inside, ends)) in
      let rest = take k (drop (from + 1) placed) in
      let nonzero : All (λ c. c ≢ 0) (at from ∷ rest) =
      subst (λ (l : List ℕ). All (λ c. c ≢ 0) (take (suc k) l)) turned some in
      let first = All-head (λ c. c ≢ 0) (at from) rest nonzero in
      let others = All-tail (λ c. c ≢ 0) (at from) rest nonzero in
      ap (λ (o : Option Says). o ∷ map said (range_with_len (from + 1) m)) (ap said_by_holders (held from from_one first))
      ∙ ap (λ (l : List (Option Says)). Some (One (at from)) ∷ l)
      (all_said k (from + 1) j m (omega arith) (omega (arith, ends)) (omega (arith, whole)) others)
      ∙ sym (ap (λ (l : List ℕ). plainly (take (suc k) l) j) turned)

  pub placed_say : (j : ℕ) → last + j ≡ MOST_CANDIDATES → All (λ c. c ≢ 0) (take last (drop 1 placed))
      → said_up_to MOST_CANDIDATES all ≡ plainly (take last (drop 1 placed)) j
  unfolding said_up_to
  placed_say j whole some = all_said last 1 j MOST_CANDIDATES (omega arith) (omega arith) whole some

-- ---- a ranking

-- who alone holds a rank has it
holder_has : (rank from c : ℕ) (cs : List ℕ) (ranks : List (Option ℕ))
    → filter_map (holder rank) (enumerate_from from ranks) ≡ c ∷ cs
    → (from ≤ c) × (get_or ranks (c - from) None ≡ Some rank)
holder_has rank from c cs [] is = absurd (cc is)
holder_has rank from c cs (None ∷ qs) is =
    let later = holder_has rank (from + 1) c cs qs is in
    let next : c - from ≡ suc (c - (from + 1)) = omega (arith, later.0) in
    (omega (arith, later.0), ap (λ (k : ℕ). get_or (None ∷ qs) k None) next ∙ later.1)
holder_has rank from c cs (Some r ∷ qs) is =
    by_test (eqb r rank) refl (holder_has rank (from + 1) c cs qs) is
  where
    by_test : (b : Bool) → eqb r rank ≡ b
        → (filter_map (holder rank) (enumerate_from (from + 1) qs) ≡ c ∷ cs
        → (from + 1 ≤ c) × (get_or qs (c - (from + 1)) None ≡ Some rank))
        → cons_option (cond b (Some from) None) (filter_map (holder rank) (enumerate_from (from + 1) qs)) ≡ c ∷ cs
        → (from ≤ c) × (get_or (Some r ∷ qs) (c - from) None ≡ Some rank)
    by_test true same behind is =
        let first : from ≡ c = cc is in
        let zeroth : c - from ≡ 0 = omega (arith, first) in
        (omega (arith, first), ap (λ (k : ℕ). get_or (Some r ∷ qs) k None) zeroth ∙ ap Some (eqb-true r rank same))
    by_test false other behind is =
        let later = behind is in
        let next : c - from ≡ suc (c - (from + 1)) = omega (arith, later.0) in
        (omega (arith, later.0), ap (λ (k : ℕ). get_or (Some r ∷ qs) k None) next ∙ later.1)

module _ (numbers placed : List ℕ) (last : ℕ) (is : ArePlaced numbers placed last)
    (some : All (λ c. c ≢ 0) (between 1 (last + 1) placed))
  where
    abbrev ranking : List ℕ
    ranking = between 1 (last + 1) placed

    long : length ranking ≡ last
    long =
        let size = is.size in
        let inside = is.inside in
        let is_long = length-between placed 1 (last + 1) (omega (arith, size, inside)) in
        omega (arith, is_long)

    at_is : (k d : ℕ) → k < length ranking → get_or ranking k d ≡ get_or placed (1 + k) 0
    at_is k d within =
        let size = is.size in
        let inside = is.inside in
        get_or-between placed 1 (last + 1) k d (omega (arith, within, long))
        ∙ get_or_default placed (1 + k) d 0 (omega (arith, within, long, size, inside))

    holds : (k : ℕ) → k < length ranking → holders (1 + k) (map rank_or_none numbers) ≡ get_or placed (1 + k) 0 ∷ []
    holds k within =
        held numbers placed last is (1 + k) (omega arith)
        (λ zeroth. some k 0 within (at_is k 0 within ∙ zeroth))

    one_of : (k : ℕ) → k < length ranking → (1 ≤ get_or placed (1 + k) 0) × (get_or placed (1 + k) 0 ≤ length numbers)
    one_of k within =
        let all = map rank_or_none numbers in
        let c = get_or placed (1 + k) 0 in
        let counted = length-map numbers rank_or_none in
        let from =
        All-head (IsFrom 1 (length all)) c []
        (subst (λ (cs : List ℕ). All (IsFrom 1 (length all)) cs) (holds k within) (holders_from (1 + k) 1 all)) in
        (from.0, omega (arith, from.1, counted))

    has_rank : (k c : ℕ) → k < length ranking → get_or placed (1 + k) 0 ≡ c
        → get_or (map rank_or_none numbers) (c - 1) None ≡ Some (1 + k)
    has_rank k c within same =
        (holder_has (1 + k) 1 c [] (map rank_or_none numbers) (holds k within ∙ ap (λ (n : ℕ). n ∷ []) same)).1

    pub placed_rank : IsRanking (length numbers) ranking
    placed_rank = record {
      numbers = λ k d within.
          let one = one_of k within in
          let there = at_is k d within in
          (omega (arith, there, one.0), omega (arith, there, one.1));
      different = λ i j d before within same.
          let c = get_or placed (1 + j) 0 in
          let first = at_is i d (omega (arith, before, within)) in
          let second = at_is j d within in
          let both : Some (1 + i) ≡ Some (1 + j) =
          sym (has_rank i c (omega (arith, before, within)) (sym first ∙ same ∙ second)) ∙ has_rank j c within refl in
          let equal : 1 + i ≡ 1 + j = cc both in
          omega (arith, equal, before);
    }

-- ---- each of some

-- with one more, which is such a one where a test says so
module _ {X : Type 0} (P : X → Type 0) (xs : List X) (x : X) (d : X) where
  pub each_more : (are is : Bool) → (IsTrue are ↔ All P xs) → (IsTrue is ↔ P x) → IsTrue (are && is) ↔ All P (xs ++ x ∷ [])
  each_more are is so_far here = (
    λ both. let parts = and_parts are is both in All-push P xs x (so_far.0 parts.0) (here.0 parts.1),
    λ all.
        let long = length-append xs (x ∷ []) in
        let front : All P xs =
        λ k e inside. subst P (get_or_append_left xs (x ∷ []) e k inside) (all k e (omega (arith, inside, long))) in
        let last = subst P (get_or-append_seam xs x [] d) (all (length xs) d (omega (arith, long))) in
        and_from are is (so_far.1 front) (here.1 last),
  )

abbrev pub IsHeld : ℕ → Type 0
IsHeld c = c ≢ 0

pub some_held : (c : ℕ) → IsTrue (not (c == 0)) ↔ IsHeld c
some_held c = (
  λ some zeroth. false≢true (ap not (sym (eq-eqb c 0 zeroth)) ∙ some),
  λ other. ap not (ne_eqb c 0 other),
)
