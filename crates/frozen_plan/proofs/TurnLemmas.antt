-- Lines that are dealt to one shard, turn by turn, and the plans of all shards.
use Rattle.std.proofs.Common.{◌≡◌, ◌≢◌, ℕ, suc, zero, ◌+◌, ◌*◌, ◌-◌, ◌/◌, ◌%◌, ◌≤◌, ◌<◌, List, [], ◌∷◌, ◌++◌}
use Rattle.std.proofs.Common.{All, length, take, mod-lt, get_or, replicate}
use Rattle.std.proofs.Common.{⊎_elim, arith, sym, ap, ◌∙◌, subst}
use Rattle.std.specs.List.Sorted.{IsPermutation}
use Rattle.std.proofs.Math.Nat.{mod-add-div', mod-eq_of_lt}
use Rattle.std.proofs.lemmas.Nat.{mod-mul-add}
use Rattle.std.proofs.lemmas.Bool.Decides.{leb_tells}
use Rattle.std.proofs.lemmas.List.{append-nil, length-append, get_or_default, get_or-map, length-map, take_all}
use Rattle.std.proofs.lemmas.List.Elements.{All-nil, All-push}
use Rattle.std.proofs.lemmas.List.Sorted.{IsPermutation-trans}
use Rattle.plain_ballots.specs.declared.ballot_line.BallotLine.{BallotLine}
use Rattle.plain_ballots.specs.Ballots.{BallotList, plain}
use Rattle.packed_ballots.specs.declared.packed_line.PackedLine.{PackedLine}
use Rattle.packed_ballots.specs.Packed.{rest_of, rests, line_of, lines_of, front_of, IsKept, IsPacked}
use Rattle.frozen_plan.specs.Dealing.{share, AreOfShares}
use Rattle.frozen_plan.specs.Dealt.{IsDealt, AreOfShard, IsOfShare, LinesToDeal, AreOfTurns}
use Rattle.frozen_plan.specs.Plan.{PlanRows, plan_ballots}
use Rattle.frozen_plan.proofs.RunLemmas.{nothing}
use Rattle.frozen_plan.proofs.DealingLemmas.{dealt_elsewhere, share_more, one_plan_more}
use Rattle.frozen_plan.proofs.MergeLemmas.{rests_push, share_more_lines}
use Rattle.frozen_plan.proofs.ShareLemmas.{own_line}

-- ---- whose turn it is

-- so many turns after the turn t of n it is another's
other_turn : (n t r m : ℕ) → t < n → 1 ≤ m → m < n → (r * n + t + m) % n ≢ t
other_turn n t r m within some few same = ⊎_elim
    (λ (left : (_) × (n ≤ t + m)).
    let next : (r + 1) * n ≡ r * n + n = grind arith in
    let sum : r * n + t + m ≡ (r + 1) * n + (t + m - n) = omega (arith, next, left.1) in
    let is = ap (λ (k : ℕ). k % n) sum ∙ mod-mul-add (r + 1) n (t + m - n) (omega (arith, left.1, within, few)) in
    omega (arith, is, same, left.1, few))
    (λ (right : (_) × (t + m < n)).
    let sum : r * n + t + m ≡ r * n + (t + m) = omega arith in
    let is = ap (λ (k : ℕ). k % n) sum ∙ mod-mul-add r n (t + m) right.1 in
    omega (arith, is, same, some))
    (leb_tells n (t + m))

-- between two of its turns a shard gets nothing
pub not_its_turn : (n i j : ℕ) → 1 ≤ n → i < j → j < i + n → j % n ≢ i % n
not_its_turn n i j some behind before same =
    let t = i % n in
    let r = i / n in
    let parts : t + r * n ≡ i = mod-add-div' i n in
    let at : r * n + t + (j - i) ≡ j = omega (arith, parts, behind) in
    other_turn n t r (j - i) (mod-lt i {m = n} some) (omega (arith, behind)) (omega (arith, before))
    (ap (λ (k : ℕ). k % n) at ∙ same)

-- nor before its first
pub before_its_turn : (n turn j : ℕ) → turn < n → j < turn → j % n ≢ turn
before_its_turn n turn j within below same =
    let is = mod-eq_of_lt {n = j} {m = n} (omega arith) in omega (arith, is, same, below)

-- ---- a share

one_other :
    (n s j : ℕ) (lines : List BallotLine) → j % n ≢ s
    → share n (s + 1) 0 (take j lines) ≡ share n (s + 1) 0 (take (j + 1) lines)
one_other n s j lines other = ⊎_elim
    (λ (past : (_) × (length lines ≤ j)).
    ap (share n (s + 1) 0) (take_all j lines past.1 ∙ sym (take_all (j + 1) lines (omega (arith, past.1)))))
    (λ (inside : (_) × (j < length lines)).
    let none : BallotLine = record { count = 0; ranking = [] } in
    let line = get_or lines j none in
    let so_far = share n (s + 1) 0 (take j lines) in
    sym (append-nil so_far)
    ∙ (ap (λ (l : List (List ℕ)). so_far ++ l) (sym (dealt_elsewhere n j line (s + 1) (λ e. other (omega arith))))
    ∙ sym (share_more n (s + 1) lines j line inside.1 (get_or_default lines j none line inside.1))))
    (leb_tells (length lines) j)

-- lines that go to others leave a share as it is
pub none_between :
    (n s i k : ℕ) (lines : List BallotLine) → ((j : ℕ) → i ≤ j → j < i + k → j % n ≢ s)
    → share n (s + 1) 0 (take i lines) ≡ share n (s + 1) 0 (take (i + k) lines)
none_between n s i zero lines others = ap (λ (j : ℕ). share n (s + 1) 0 (take j lines)) (omega arith)
none_between n s i (suc k) lines others =
    none_between n s i k lines (λ j from below. others j from (omega (arith, below)))
    ∙ (one_other n s (i + k) lines (others (i + k) (omega arith) (omega arith))
    ∙ ap (λ (j : ℕ). share n (s + 1) 0 (take j lines)) (omega arith))

-- ---- packed lines that a shard gets

-- of the first i lines it has its own
pub record AreOwn (bytes : List ℕ) (n s i : ℕ) (lines own : List PackedLine) : Type 0 where
  pub ballots : rests bytes 0 own ≡ share n (s + 1) 0 (take i (lines_of bytes lines))
  pub sound : (candidates : ℕ) → IsPacked candidates bytes lines → IsPacked candidates bytes own

-- none before its first turn
pub none_own : (bytes : List ℕ) (n turn : ℕ) (lines : List PackedLine) → turn < n → AreOwn bytes n turn turn lines []
none_own bytes n turn lines within =
    let start : 0 + turn ≡ turn = omega arith in
    record {
      ballots =
          none_between n turn 0 turn (lines_of bytes lines)
          (λ j from below. before_its_turn n turn j within (omega (arith, below)))
          ∙ ap (λ (j : ℕ). share n (turn + 1) 0 (take j (lines_of bytes lines))) start;
      sound = λ candidates is. record {
        numbers = is.numbers;
        kept = All-nil (IsKept bytes);
        short = All-nil (λ (l : PackedLine). length (rest_of bytes 0 l) ≤ 250);
        counted = All-nil (λ (l : PackedLine). 1 ≤ l.count);
        fronts = All-nil (λ (l : PackedLine). l.front ≡ front_of (rest_of bytes 0 l));
      };
    }

-- then one at each
pub one_own :
    (bytes : List ℕ) (n turn i : ℕ) (lines own : List PackedLine) → i < length lines → 1 ≤ n → i % n ≡ turn
    → AreOwn bytes n turn i lines own → AreOwn bytes n turn (i + n) lines (own ++ get_or lines i nothing ∷ [])
one_own bytes n turn i lines own inside some mine before =
    let line = get_or lines i nothing in
    let all = lines_of bytes lines in
    let next : i + 1 + (n - 1) ≡ i + n = omega (arith, some) in
    let among : i < length all = omega (arith, inside, length-map lines (line_of bytes)) in
    let here : line_of bytes line ≡ get_or all i (line_of bytes line) =
    sym (get_or-map (line_of bytes) lines i nothing (line_of bytes line) inside) in
    record {
      ballots =
          rests_push bytes own line
          ∙ (ap (λ (l : List (List ℕ)). l ++ replicate line.count (rest_of bytes 0 line)) before.ballots
          ∙ (ap (λ (l : List (List ℕ)). share n (turn + 1) 0 (take i all) ++ l)
          (sym (own_line n turn i (line_of bytes line) mine))
          ∙ (sym (share_more n (turn + 1) all i (line_of bytes line) among here)
          ∙ (none_between n turn (i + 1) (n - 1) all
          (λ j from below same. not_its_turn n i j some (omega (arith, from)) (omega (arith, below, next)) (same ∙ sym mine))
          ∙ ap (λ (j : ℕ). share n (turn + 1) 0 (take j all)) next))));
      sound = λ candidates is. share_more_lines candidates bytes lines own i inside is (before.sound candidates is);
    }

-- all lines are passed
pub all_own :
    (bytes : List ℕ) (n turn i : ℕ) (lines own : List PackedLine) → length lines ≤ i
    → AreOwn bytes n turn i lines own → AreOfShard bytes n (turn + 1) lines own
all_own bytes n turn i lines own past before = record {
  ballots =
      before.ballots
      ∙ ap (share n (turn + 1) 0)
      (take_all i (lines_of bytes lines) (omega (arith, past, length-map lines (line_of bytes))));
  sound = before.sound;
}

-- ---- plans of all shards

-- a plan of each of the first shares, and the shares that are left
pub record AreMade (candidates n : ℕ) (lines : List BallotLine) (plans : List PlanRows)
    (left : List BallotList) : Type 0 where
  pub as_many : length plans + length left ≡ n
  pub of_all : All (λ plan. plan.candidates ≡ candidates) plans
  pub shares : AreOfShares n 1 lines plans
  pub dealt :
      (s : ℕ) (d : BallotList) → s < length left
      → IsDealt candidates n (length plans + s + 1) 0 lines (get_or left s d)

pub one_made :
    (candidates n : ℕ) (lines : List BallotLine) (plans now : List PlanRows) (old left : List BallotList)
    (one : BallotList) (plan : PlanRows)
    → AreMade candidates n lines plans old → old ≡ one ∷ left → now ≡ plans ++ plan ∷ []
    → plan.candidates ≡ one.candidates → IsPermutation (plan_ballots plan.rows) (plain one.lines)
    → AreMade candidates n lines now left
one_made candidates n lines plans now old left one plan before next more same ballots =
    let was : AreMade candidates n lines plans (one ∷ left) = subst (AreMade candidates n lines plans) next before in
    let size : length now ≡ length plans + 1 = ap length more ∙ length-append plans (plan ∷ []) in
    let own : IsDealt candidates n (1 + length plans) 0 lines one =
    subst (λ (t : ℕ). IsDealt candidates n t 0 lines one) (omega arith) (was.dealt 0 one (omega arith)) in
    let whole : IsPermutation (plan_ballots plan.rows) (share n (1 + length plans) 0 lines) =
    IsPermutation-trans (plan_ballots plan.rows) (plain one.lines) (share n (1 + length plans) 0 lines) ballots own.all in
    record {
      as_many = omega (arith, was.as_many, size);
      of_all =
          subst (All (λ (p : PlanRows). p.candidates ≡ candidates)) (sym more)
          (All-push (λ (p : PlanRows). p.candidates ≡ candidates) plans plan was.of_all (same ∙ own.of_all));
      shares = subst (AreOfShares n 1 lines) (sym more) (one_plan_more n 1 lines plans plan was.shares whole);
      dealt = λ s d inside.
          subst (λ (t : ℕ). IsDealt candidates n t 0 lines (get_or left s d)) (omega (arith, size))
          (was.dealt (suc s) d (omega (arith, inside)));
    }

are_of_shares : (candidates n s : ℕ) (lines : List BallotLine) (plans : List PlanRows)
    → ((k : ℕ) (d : PlanRows) → k < length plans → IsOfShare candidates n (s + k) lines (get_or plans k d))
    → AreOfShares n s lines plans
are_of_shares candidates n s lines [] made = tt
are_of_shares candidates n s lines (plan ∷ plans) made = (
  subst (λ (t : ℕ). IsPermutation (plan_ballots plan.rows) (share n t 0 lines)) (omega arith)
      (made 0 plan (omega arith)).ballots,
  are_of_shares candidates n (s + 1) lines plans (λ k d inside.
      subst (λ (t : ℕ). IsOfShare candidates n t lines (get_or plans k d)) (omega arith)
      (made (suc k) d (omega (arith, inside)))),
)

-- the same by other names
pub same_turns :
    {deal same : LinesToDeal} {plans list : List PlanRows} → deal ≡ same → list ≡ plans → AreOfTurns deal plans
    → AreOfTurns same list
same_turns {deal} {same} {plans} {list} is listed made =
    subst (λ (d : LinesToDeal). AreOfTurns d list) is (subst (AreOfTurns deal) (sym listed) made)

-- the plans of all shards, where each is that of its turn
module _ (deal : LinesToDeal) (plans : List PlanRows) (made : AreOfTurns deal plans) where
  each_of :
      (turn : ℕ) (d : PlanRows) → turn < length plans
      → IsOfShare deal.candidates deal.shards (turn + 1) deal.lines (get_or plans turn d)
  each_of turn d inside = made.each turn d (omega (arith, inside, made.as_many))

  pub turns_of_all : All (λ plan. plan.candidates ≡ deal.candidates) plans
  turns_of_all turn d inside = (each_of turn d inside).of_all

  pub turns_are_shares : AreOfShares deal.shards 1 deal.lines plans
  turns_are_shares =
      are_of_shares deal.candidates deal.shards 1 deal.lines plans (λ turn d inside.
      subst (λ (t : ℕ). IsOfShare deal.candidates deal.shards t deal.lines (get_or plans turn d)) (omega arith)
      (each_of turn d inside))
