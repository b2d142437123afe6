-- What rows give in all, and the weights after them, as rows are added.
use Rattle.std.proofs.Common.{◌≡◌, ℕ, ◌+◌, ◌-◌, ◌*◌, ◌<◌, ◌≤◌, ◌==◌, Bool, true, false, cond, List, [], ◌∷◌}
use Rattle.std.proofs.Common.{◌++◌, length, get_or, replicate, sum, arith, refl, ap, sym, ◌∙◌, Some, None}
use Rattle.std.proofs.lemmas.List.{length-set, length-replicate}
use Rattle.std.proofs.lemmas.List.Elements.{All-push}
use Rattle.std.proofs.lemmas.List.Sums.{sum_by_push}
use Rattle.std.proofs.Math.Nat.{mul-add}
use Rattle.meek_rule.specs.Weights.{kept, given}
use Rattle.meek_rule.proofs.WeightLemmas.{given-nothing}
use Rattle.vote_spread.specs.declared.class.Class.{Class}
use Rattle.vote_spread.specs.declared.class.Class.TheVariants.{Passes}
use Rattle.vote_spread.specs.Stem.{Stem}
use Rattle.vote_spread.specs.Gain.{gain, past, gains, opening}
use Rattle.vote_spread.specs.Rows.{row_stem, IsRow, behind, left_at, total, rest, Continues, Leaves}
use Rattle.vote_spread.proofs.GainLemmas.{past-here, past-other, length-past}
use Rattle.vote_spread.proofs.ClassLemmas.{passed}

gains_push :
    (s : ℕ) (keeps : List ℕ) (c : ℕ) (ws : List ℕ) (rows : List Stem) (row : Stem)
    → gains s keeps c ws (rows ++ row ∷ [])
    ≡ gains s keeps c ws rows ++ gain s keeps c (behind s keeps ws rows) row ∷ []
gains_push s keeps c ws [] row = refl
gains_push s keeps c ws (x ∷ rows) row =
    ap (λ l. gain s keeps c ws x ∷ l) (gains_push s keeps c (past s keeps ws x) rows row)

behind_push :
    (s : ℕ) (keeps : List ℕ) (ws : List ℕ) (rows : List Stem) (row : Stem)
    → behind s keeps ws (rows ++ row ∷ []) ≡ past s keeps (behind s keeps ws rows) row
behind_push s keeps ws [] row = refl
behind_push s keeps ws (x ∷ rows) row = behind_push s keeps (past s keeps ws x) rows row

length-behind : (s : ℕ) (keeps : List ℕ) (ws : List ℕ) (rows : List Stem) → length (behind s keeps ws rows) ≡ length ws
length-behind s keeps ws [] = refl
length-behind s keeps ws (x ∷ rows) = length-behind s keeps (past s keeps ws x) rows ∙ length-past s keeps ws x

pub length-opening : (s : ℕ) → length (opening s) ≡ 251
length-opening s = length-set (replicate 251 0) 0 s ∙ length-replicate {A = ℕ} 251 0

total_push :
    (s : ℕ) (keeps : List ℕ) (c : ℕ) (rows : List Stem) (row : Stem)
    → total s keeps c (rows ++ row ∷ [])
    ≡ total s keeps c rows + gain s keeps c (behind s keeps (opening s) rows) row
total_push s keeps c rows row =
    ap sum (gains_push s keeps c (opening s) rows row)
    ∙ sum_by_push (λ x. x) (gains s keeps c (opening s) rows) (gain s keeps c (behind s keeps (opening s) rows) row)

-- a row below depth `at`
pub row_continues :
    (classes : List Class) (at candidate ballots : ℕ) (rows : List Stem) → at < 250 → 1 ≤ candidate
    → candidate ≤ length classes
    → Continues classes ballots at (candidate ∷ []) rows (rows ++ row_stem (at + 1) candidate ballots ∷ [])
row_continues classes at candidate ballots rows shallow number known =
    let row = row_stem (at + 1) candidate ballots in
    let here : at + 1 - 1 ≡ at = omega arith in
    record {
      sound =
          λ are. All-push (IsRow (length classes)) rows row are
          (record { below_root = omega arith; shallow = omega arith; candidate = number; known = known });
      above =
          λ s keeps depth are le.
          ap (λ (l : List ℕ). get_or l depth 0) (behind_push s keeps (opening s) rows row)
          ∙ past-other s keeps (behind s keeps (opening s) rows) row depth (omega arith);
      gives =
          λ s keeps c are.
          total_push s keeps c rows row
          ∙ ap (λ n. total s keeps c rows + ballots
          * given s keeps (get_or (behind s keeps (opening s) rows) n 0) (candidate ∷ []) c) here;
    }

-- what is left after it
pub row_leaves :
    (s : ℕ) (keeps : List ℕ) (at candidate ballots : ℕ) (rows : List Stem) → at < 250
    → left_at s keeps (rows ++ row_stem (at + 1) candidate ballots ∷ []) (at + 1)
    ≡ rest s keeps rows at candidate
row_leaves s keeps at candidate ballots rows shallow =
    let row = row_stem (at + 1) candidate ballots in
    let ws = behind s keeps (opening s) rows in
    let here : at + 1 - 1 ≡ at = omega arith in
    ap (λ (l : List ℕ). get_or l (at + 1) 0) (behind_push s keeps (opening s) rows row)
    ∙ (past-here s keeps ws row (omega (arith, length-behind s keeps (opening s) rows, length-opening s))
    ∙ ap (λ n. get_or ws n 0 - kept s keeps (get_or ws n 0) candidate) here)

-- candidates of each class
pub passes_continues :
    (classes : List Class) (at candidate ballots : ℕ) (d : Class) (rows : List Stem) → 1 ≤ candidate
    → candidate ≤ length classes → get_or classes (candidate - 1) d ≡ Passes
    → Continues classes ballots at (candidate ∷ []) rows rows
passes_continues classes at candidate ballots d rows number known is = record {
  sound = λ are. are;
  above = λ s keeps depth are le. refl;
  gives =
      λ s keeps c are.
      let w = left_at s keeps rows at in
      let none : kept s keeps w candidate ≡ 0 = passed s keeps classes w candidate d are (omega arith) is in
      let nothing : given s keeps w (candidate ∷ []) c ≡ 0 =
      ap (λ k. cond (candidate == c) k 0 + 0) none ∙ nothing_either (candidate == c) in
      let times : ballots * given s keeps w (candidate ∷ []) c ≡ 0 = ap (λ m. ballots * m) nothing ∙ omega arith in
      omega arith;
}
  where
    nothing_either : (b : Bool) → cond b 0 0 + 0 ≡ 0
    nothing_either b = elim b as (λ b. cond b 0 0 + 0 ≡ 0) [ true ↦ omega arith | false ↦ omega arith ]

pub passes_leaves :
    (classes : List Class) (at candidate : ℕ) (d : Class) (rows : List Stem) → 1 ≤ candidate
    → candidate ≤ length classes → get_or classes (candidate - 1) d ≡ Passes
    → Leaves classes at candidate rows rows (Some at)
passes_leaves classes at candidate d rows number known is = (
  omega arith,
  omega arith,
  λ s keeps are.
      let w = left_at s keeps rows at in
      let none : kept s keeps w candidate ≡ 0 = passed s keeps classes w candidate d are (omega arith) is in
      omega arith,
)

-- ranks that go on after a candidate
pub continues_then :
    (classes : List Class) (ballots at below candidate : ℕ) (ranks : List ℕ) (old mid new : List Stem)
    → Continues classes ballots at (candidate ∷ []) old mid → Leaves classes at candidate old mid (Some below)
    → Continues classes ballots below ranks mid new → Continues classes ballots at (candidate ∷ ranks) old new
continues_then classes ballots at below candidate ranks old mid new one leaves two = record {
  sound = λ are. two.sound (one.sound are);
  above = λ s keeps depth are le. two.above s keeps depth are (omega (arith, leaves.0)) ∙ one.above s keeps depth are le;
  gives =
      λ s keeps c are.
      let w = left_at s keeps old at in
      let here = cond (candidate == c) (kept s keeps w candidate) 0 in
      let first : total s keeps c mid ≡ total s keeps c old + ballots * (here + 0) = one.gives s keeps c are in
      let next :
      total s keeps c new
      ≡ total s keeps c mid + ballots * given s keeps (rest s keeps old at candidate) ranks c =
      two.gives s keeps c are ∙ ap (λ m. total s keeps c mid + ballots * given s keeps m ranks c) (leaves.2 s keeps are) in
      let split :
      ballots * (here + given s keeps (rest s keeps old at candidate) ranks c)
      ≡ ballots * here + ballots * given s keeps (rest s keeps old at candidate) ranks c =
      mul-add ballots here (given s keeps (rest s keeps old at candidate) ranks c) in
      let same : ballots * (here + 0) ≡ ballots * here = ap (λ m. ballots * m) (omega arith) in
      omega arith;
}

-- ranks after a candidate that leaves nothing
pub continues_end :
    (classes : List Class) (ballots at candidate : ℕ) (ranks : List ℕ) (old new : List Stem)
    → Continues classes ballots at (candidate ∷ []) old new → Leaves classes at candidate old new None
    → Continues classes ballots at (candidate ∷ ranks) old new
continues_end classes ballots at candidate ranks old new one leaves = record {
  sound = one.sound;
  above = one.above;
  gives =
      λ s keeps c are.
      let w = left_at s keeps old at in
      let here = cond (candidate == c) (kept s keeps w candidate) 0 in
      let none : given s keeps (rest s keeps old at candidate) ranks c ≡ 0 =
      ap (λ v. given s keeps v ranks c) (leaves s keeps are) ∙ given-nothing s keeps ranks c are.whole in
      one.gives s keeps c are ∙ ap (λ m. total s keeps c old + ballots * (here + m)) (sym none);
}

-- no ranks
pub continues_nothing :
    (classes : List Class) (ballots at : ℕ) (rows : List Stem) → Continues classes ballots at [] rows rows
continues_nothing classes ballots at rows = record {
  sound = λ are. are;
  above = λ s keeps depth are le. refl;
  gives = λ s keeps c are. let none : ballots * 0 ≡ 0 = omega arith in omega arith;
}
