-- A sorted list of batches, piece by piece, is the batches by rising number.
use Rattle.std.proofs.Common.{◌≡◌, ◌≢◌, ◌⊎◌, ℕ, zero, suc, ◌+◌, ◌<◌, ◌≤◌, ◌==◌, true, false, List, [], ◌∷◌}
use Rattle.std.proofs.Common.{◌++◌, refl, sym, ap, ◌∙◌, subst, ⊎_elim, inl, inr, arith, Option, Some, None}
use Rattle.std.proofs.Common.{eq-eqb, ne_eqb, append_assoc}
use Rattle.std.specs.Prelude.{is_some, All}
use Rattle.std.specs.List.{flat_map, range_with_len, AllByRecursion}
use Rattle.std.specs.List.Sorted.{IsStrictlySortedBy}
use Rattle.std.specs.Map.{keys_of, values_of}
use Rattle.std.specs.BTreeMap.{is_at}
use Rattle.std.specs.Ordering.{nat_cmp}
use Rattle.std.specs.declared.cmp.Ordering.TheVariants.{Less}
use Rattle.std.proofs.lemmas.Bool.Decides.{eqb_tells, nat_tests}
use Rattle.std.proofs.lemmas.List.Folds.{flat_map-map}
use Rattle.std.proofs.lemmas.List.Sums.{sum_by-append}
use Rattle.std.proofs.lemmas.List.Elements.{All-cons}
use Rattle.std.proofs.lemmas.Map.Entries.{lookup_head, lookup_tail}
use Rattle.std.proofs.lemmas.Map.Keys.{sorted_head, sorted_tail}
use Rattle.batch_core.specs.declared.batch.Batch.{Batch}
use Rattle.batch_core.specs.Book.{BookState, by_number, lines_of, ballot_lines, standing, last_batch}
use Rattle.batch_core.specs.Lawful.{IsInRange, IsKept, AreKept, AreOfBatch}
use Rattle.plain_ballots.specs.declared.ballot_line.BallotLine.{BallotLine}
use Rattle.plain_ballots.specs.Ballots.{ballot_count}
use Rattle.batch_core.proofs.BookLemmas.{at-is}
use Rattle.batch_core.proofs.StandingLemmas.{same_pieces}
use Rattle.batch_core.proofs.LawfulLemmas.{standing_total}

found_head : (k : ℕ) (e : ℕ × Batch) (es : List (ℕ × Batch)) → k ≡ e.0 → by_number (e ∷ es) k ≡ Some e.1
found_head k e es is = lookup_head (is_at (nat_cmp k)) e es (at-is k e.0 ∙ eq-eqb e.0 k (sym is))

found_tail : (k : ℕ) (e : ℕ × Batch) (es : List (ℕ × Batch)) → k ≢ e.0 → by_number (e ∷ es) k ≡ by_number es k
found_tail k e es ne = lookup_tail (is_at (nat_cmp k)) e es (at-is k e.0 ∙ ne_eqb e.0 k (λ h. ne (sym h)))

less-lt : (x y : ℕ) → nat_cmp x y ≡ Less → x < y
less-lt x y less = grind (arith, nat_tests)

-- the numbers of a list whose keys are above x
above :
    (x k : ℕ) (es : List (ℕ × Batch)) → AllByRecursion (λ y. nat_cmp x y ≡ Less) (keys_of es)
    → is_some (by_number es k) ≡ true → x < k
above x k [] all some = absurd (cc)
above x k (e ∷ es) all some = ⊎_elim
    (λ (h : ((k == e.0) ≡ true) × (k ≡ e.0)). subst (λ n. x < n) (sym h.1) (less-lt x e.0 all.0))
    (λ (h : ((k == e.0) ≡ false) × (k ≢ e.0)). above x k es all.1 (sym (ap is_some (found_tail k e es h.1)) ∙ some))
    (eqb_tells k e.0)

none_or_some : (o : Option Batch) → (o ≡ None) ⊎ (is_some o ≡ true)
none_or_some None = inl refl
none_or_some (Some x) = inr refl

module _ {Y : Type 0} (g : Option Batch → List Y) (none : g None ≡ []) where
  no_pieces : (n a : ℕ) → flat_map (λ b. g (by_number [] b)) (range_with_len a n) ≡ []
  no_pieces zero a = refl
  no_pieces (suc n) a = λ i. none i ++ no_pieces n (a + 1) i

  pub in_order :
      (n a : ℕ) (es : List (ℕ × Batch)) → IsStrictlySortedBy nat_cmp (keys_of es)
      → ((k : ℕ) → is_some (by_number es k) ≡ true → (a ≤ k) × (k < a + n))
      → flat_map (λ b. g (by_number es b)) (range_with_len a n) ≡ flat_map (λ (e : ℕ × Batch). g (Some e.1)) es
  in_order n a [] sorted within = no_pieces n a
  in_order zero a (e ∷ es) sorted within =
      let h = within e.0 (ap is_some (found_head e.0 e es refl)) in absurd (omega (arith, h.0, h.1))
  in_order (suc n) a (e ∷ es) sorted within =
      let first = within e.0 (ap is_some (found_head e.0 e es refl)) in
      let tail_above : (k : ℕ) → is_some (by_number es k) ≡ true → e.0 < k =
      λ k some. above e.0 k es (sorted_head nat_cmp e.0 (keys_of es) sorted) some in
      ⊎_elim
      (λ (h : ((a == e.0) ≡ true) × (a ≡ e.0)).
      let is = h.1 in
      let later :
      flat_map (λ b. g (by_number (e ∷ es) b)) (range_with_len (a + 1) n)
      ≡ flat_map (λ b. g (by_number es b)) (range_with_len (a + 1) n) =
      same_pieces (λ b. g (by_number es b)) (λ b. g (by_number (e ∷ es) b)) e.0
      (λ b ne. ap g (found_tail b e es ne)) n (a + 1) (omega arith) in
      let rest :
      flat_map (λ b. g (by_number es b)) (range_with_len (a + 1) n)
      ≡ flat_map (λ (x : ℕ × Batch). g (Some x.1)) es =
      in_order n (a + 1) es (sorted_tail nat_cmp e.0 (keys_of es) sorted) (λ k some.
      let over = tail_above k some in
      let up = (within k (by_tail k some over)).1 in (omega arith, omega arith)) in
      (λ i. ap g (found_head a e es is) i ++ later i) ∙ ap (λ l. g (Some e.1) ++ l) rest)
      (λ (h : ((a == e.0) ≡ false) × (a ≢ e.0)).
      let ne = h.1 in
      let lt : a < e.0 = omega (arith, first.0) in
      let missing : by_number (e ∷ es) a ≡ None = found_tail a e es ne ∙ ⊎_elim
      (λ (m : by_number es a ≡ None). m)
      (λ (s : is_some (by_number es a) ≡ true). absurd (let over = tail_above a s in omega arith))
      (none_or_some (by_number es a)) in
      (λ i. (ap g missing ∙ none) i ++ flat_map (λ b. g (by_number (e ∷ es) b)) (range_with_len (a + 1) n))
      ∙ in_order n (a + 1) (e ∷ es) sorted (λ k some.
      let low = (within k some).0 in
      let up = (within k some).1 in
      let other : a ≢ k =
      λ is. absurd (let t : true ≡ false =
      sym some ∙ (ap (λ j. is_some (by_number (e ∷ es) j)) (sym is) ∙ ap is_some missing) in
      cc t) in
      (omega arith, omega arith)))
      (eqb_tells a e.0)
    where
      by_tail : (k : ℕ) → is_some (by_number es k) ≡ true → e.0 < k → is_some (by_number (e ∷ es) k) ≡ true
      by_tail k some over = ap is_some (found_tail k e es (λ is. let i = is in let o = over in omega arith)) ∙ some

-- the lines of these batches, one after another
abbrev pub all_lines : List Batch → List BallotLine
all_lines batches = flat_map (λ b. lines_of (Some b)) batches

-- each of these batches has ballots of so many candidates, and not too many
abbrev pub AreOfBatches : ℕ → List Batch → Type 0
AreOfBatches candidates batches = All (λ b. AreOfBatch candidates b.standing) batches

kept_bounds : (candidates k : ℕ) (o : Option Batch) → IsKept candidates k o → is_some o ≡ true → IsInRange k
kept_bounds candidates k None kept some = absurd (cc)
kept_bounds candidates k (Some batch) kept some = kept.0

-- the lines of the batches in the list's order are the standing lines by rising number
pub by_values :
    (candidates : ℕ) (struck : List ℕ) (es : List (ℕ × Batch)) → IsStrictlySortedBy nat_cmp (keys_of es)
    → AreKept candidates (by_number es)
    → all_lines (values_of es) ≡ standing (record { batches = by_number es; struck = struck })
unfolding last_batch
by_values candidates struck es sorted kept =
    flat_map-map (λ b. lines_of (Some b)) (λ (e : ℕ × Batch). e.1) es
    ∙ sym (in_order lines_of refl 9999 1 es sorted (λ k some.
    let b = kept_bounds candidates k (by_number es k) (kept k) some in (b.0, omega (arith, b.1))))

kept_tail :
    (candidates : ℕ) (e : ℕ × Batch) (es : List (ℕ × Batch)) → IsStrictlySortedBy nat_cmp (keys_of (e ∷ es))
    → AreKept candidates (by_number (e ∷ es)) → AreKept candidates (by_number es)
kept_tail candidates e es sorted kept k = ⊎_elim
    (λ (m : by_number es k ≡ None). subst (IsKept candidates k) (sym m) tt)
    (λ (s : is_some (by_number es k) ≡ true).
    let over = above e.0 k es (sorted_head nat_cmp e.0 (keys_of es) sorted) s in
    subst (IsKept candidates k) (found_tail k e es (λ is. let i = is in let o = over in omega arith)) (kept k))
    (none_or_some (by_number es k))

pub all_fit :
    (candidates : ℕ) (es : List (ℕ × Batch)) → IsStrictlySortedBy nat_cmp (keys_of es)
    → AreKept candidates (by_number es) → AreOfBatches candidates (values_of es)
all_fit candidates [] sorted kept = λ k d lt. absurd (omega arith)
all_fit candidates (e ∷ es) sorted kept =
    let here = subst (IsKept candidates e.0) (found_head e.0 e es refl) (kept e.0) in
    All-cons (λ (b : Batch). AreOfBatch candidates b.standing) e.1 (values_of es) here.2
    (all_fit candidates es (sorted_tail nat_cmp e.0 (keys_of es) sorted)
    (kept_tail candidates e es sorted kept))

-- there is room for the next batch's lines
pub room_for :
    (candidates : ℕ) (book : BookState) (lines : List BallotLine) (batch : Batch) (left : List Batch)
    → AreKept candidates book.batches → lines ++ all_lines (batch ∷ left) ≡ standing book
    → ballot_count lines + ballot_count (lines_of (Some batch)) ≤ 999999999
room_for candidates book lines batch left kept is =
    let total = standing_total candidates book kept in
    let same = ap ballot_count is in
    let outer = sum_by-append (λ (line : BallotLine). line.count) lines (lines_of (Some batch) ++ all_lines left) in
    let inner = sum_by-append (λ (line : BallotLine). line.count) (lines_of (Some batch)) (all_lines left) in
    omega arith

-- one batch's lines more
pub lines_more :
    (lines new : List BallotLine) (batch : Batch) (left : List Batch) (all : List BallotLine)
    → lines ++ all_lines (batch ∷ left) ≡ all → new ≡ lines ++ ballot_lines batch.standing
    → new ++ all_lines left ≡ all
lines_more lines new batch left all so_far is =
    ap (λ l. l ++ all_lines left) is ∙ (append_assoc lines (ballot_lines batch.standing) (all_lines left) ∙ so_far)
