-- The calls of a made day are calls that a day file may have.
use Rattle.std.proofs.Common.{◌≡◌, ◌≢◌, ℕ, ◌+◌, ◌*◌, ◌%◌, ◌/◌, ◌==◌, ◌<◌, ◌≤◌, Bool, true, false, cond, List}
use Rattle.std.proofs.Common.{[], ◌∷◌, ◌++◌, length, map, All, AllPairs, count_by, get_or, refl, sym, ap}
use Rattle.std.proofs.Common.{subst, ◌∙◌, arith}
use Rattle.std.specs.List.{range_with_len, flat_map}
use Rattle.std.proofs.lemmas.List.Sums.{sum_by-append}
use Rattle.std.proofs.lemmas.List.FromFn.{get_or-map-range_with_len, length-map-range_with_len}
use Rattle.std.proofs.lemmas.List.FromFn.{get_or-range_with_len, length-range_with_len}
use Rattle.std.proofs.lemmas.List.Elements.{All-nil, All-cons, All-head, All-tail, All-append, All-map, All-weaker}
use Rattle.plain_ballots.specs.Ranking.{IsRanking}
use Rattle.plain_ballots.specs.Ballots.{ballot_count}
use Rattle.plain_ballots.specs.declared.ballot_line.BallotLine.{BallotLine}
use Rattle.batch_core.specs.declared.change.Change.TheVariants.{Enter, Correct, Withdraw}
use Rattle.batch_core.specs.declared.call.Call.{Call}
use Rattle.batch_core.specs.declared.call.Call.TheVariants.{Change}
use Rattle.input_text.specs.Range.{IsIn}
use Rattle.day_reader.specs.declared.script.Script.{Script}
use Rattle.day_reader.specs.Call.{IsCall, IsBatch, is_freeze, freezes}
use Rattle.day_reader.specs.Day.{AreDifferent, AreTeams}
use Rattle.meek_trial.specs.Draws.{drawn, candidate, ranking, stride}
use Rattle.meek_trial.specs.Trial.{first, revision, draws_before}
use Rattle.day_sheets.specs.MadeDay.{drawn_line, drawn_lines, drawn_ballots, corrections, withdrawals}
use Rattle.day_sheets.specs.MadeDay.{batch_calls, team_calls, team_script, team_scripts}
use Rattle.day_sheets.proofs.MadeTexts.{range_is, batches_few}

-- ---- rankings

one_of_four : (P : ℕ → Type 0) (a b c : Bool) → P 1 → P 5 → P 7 → P 11 → P (cond a 1 (cond b 5 (cond c 7 11)))
one_of_four P true b c one five seven eleven = one
one_of_four P false true c one five seven eleven = five
one_of_four P false false true one five seven eleven = seven
one_of_four P false false false one five seven eleven = eleven

-- steps around twelve lead to different candidates
abbrev Apart : ℕ → Type 0
Apart d = (a i j : ℕ) → a < 12 → i < j → j < 8 → 1 + (a + i * d) % 12 ≢ 1 + (a + j * d) % 12

apart_1 : Apart 1
apart_1 a i j small before few same = absurd (omega arith)

apart_5 : Apart 5
apart_5 a i j small before few same = absurd (omega arith)

apart_7 : Apart 7
apart_7 a i j small before few same = absurd (omega arith)

apart_11 : Apart 11
apart_11 a i j small before few same = absurd (omega arith)

apart : (x : ℕ) → Apart (stride x)
apart x =
    let k = x / 4096 % 4 in
    one_of_four Apart (k == 0) (k == 1) (k == 2) apart_1 apart_5 apart_7 apart_11

is_ranking : (x : ℕ) → IsRanking 12 (ranking x)
is_ranking x =
    let n = 1 + x / 65536 % 8 in
    record {
      numbers =
          All-map (λ (r : ℕ). (1 ≤ r) × (r ≤ 12)) (candidate x) (range_with_len 0 n)
          (λ k d inside. (omega arith, omega arith));
      different = λ i j d before inside same.
          let many = length-map-range_with_len (candidate x) 0 n in
          let below : j < n = omega (arith, inside, many) in
          let one = get_or-map-range_with_len (candidate x) 0 n i i d (omega (arith, before, below)) (omega arith) in
          let other = get_or-map-range_with_len (candidate x) 0 n j j d below (omega arith) in
          apart x (x / 16 % 12) i j (omega arith) before (omega (arith, below)) (sym one ∙ (same ∙ other));
    }

-- ---- lines

at_most_nine :
    (line : ℕ → BallotLine) → ((l : ℕ) → (line l).count ≤ 9) → (ls : List ℕ)
    → ballot_count (map line ls) ≤ 9 * length ls
at_most_nine line nine [] = omega arith
at_most_nine line nine (l ∷ ls) =
    let here = nine l in
    let rest = at_most_nine line nine ls in
    let both : ballot_count (line l ∷ map line ls) ≡ 0 + (line l).count + ballot_count (map line ls) =
    sum_by-append (λ (b : BallotLine). b.count) (line l ∷ []) (map line ls) in
    omega (arith, here, rest, both)

is_batch : (number k : ℕ) → IsBatch 12 (drawn_ballots number k)
unfolding drawn_lines
is_batch number k =
    let line : ℕ → BallotLine = λ l. drawn_line l (drawn number (k + l + 1)) in
    let ls = range_with_len 0 40 in
    record {
      candidates_are = refl;
      lines = record {
        rankings =
            All-map (λ (b : BallotLine). IsRanking 12 b.ranking) line ls
            (λ i d inside. (let l = get_or ls i d in is_ranking (drawn number (k + l + 1))));
        counted = All-map (λ (b : BallotLine). 1 ≤ b.count) line ls (λ i d inside. omega arith);
        bounded =
            (let most =
            at_most_nine line (λ l. omega arith) ls in
            let many = length-range_with_len 0 40 in omega (arith, most, many));
      };
    }

-- ---- calls

is_in : (b : ℕ) → (1 ≤ b) × (b ≤ 9999) → IsIn 9999 b
is_in b is = record { least = is.0; most = is.1 }

correction_if :
    (third : Bool) (number b k : ℕ) → (1 ≤ b) × (b ≤ 9999)
    → All (IsCall 12) (cond third (Change (Correct b 1 (drawn_ballots number k)) ∷ []) [])
correction_if false number b k is = All-nil (IsCall 12)
correction_if true number b k is =
    All-cons (IsCall 12) (Change (Correct b 1 (drawn_ballots number k))) []
    (is_in b is, is_in 1 (omega arith, omega arith), is_batch number k) (All-nil (IsCall 12))

revision_in : (b : ℕ) → IsIn 9999 (revision b)
revision_in b = is_in (revision b) (grind arith, grind arith)

withdrawal_if :
    (seventh : Bool) (b : ℕ) → (1 ≤ b) × (b ≤ 9999)
    → All (IsCall 12) (cond seventh (Change (Withdraw b (revision b)) ∷ []) [])
withdrawal_if false b is = All-nil (IsCall 12)
withdrawal_if true b is =
    All-cons (IsCall 12) (Change (Withdraw b (revision b))) [] (is_in b is, revision_in b)
    (All-nil (IsCall 12))

batch_are_calls : (number b : ℕ) → (1 ≤ b) × (b ≤ 9999) → All (IsCall 12) (batch_calls number b)
batch_are_calls number b is =
    let k = draws_before b in
    All-append (IsCall 12) (Change (Enter b (drawn_ballots number k)) ∷ corrections number b) (withdrawals b)
    (All-cons (IsCall 12) (Change (Enter b (drawn_ballots number k))) (corrections number b)
    (is_in b is, is_batch number k) (correction_if (b % 3 == 0) number b (k + 40) is))
    (withdrawal_if (b % 7 == 0) b is)

all_are_calls :
    (number : ℕ) (bs : List ℕ) → All (λ b. (1 ≤ b) × (b ≤ 9999)) bs
    → All (IsCall 12) (flat_map (batch_calls number) bs)
all_are_calls number [] are = All-nil (IsCall 12)
all_are_calls number (b ∷ bs) are =
    All-append (IsCall 12) (batch_calls number b) (flat_map (batch_calls number) bs)
    (batch_are_calls number b (All-head (λ (k : ℕ). (1 ≤ k) × (k ≤ 9999)) b bs are))
    (all_are_calls number bs (All-tail (λ (k : ℕ). (1 ≤ k) × (k ≤ 9999)) b bs are))

team_are_calls : (number team : ℕ) → number ≤ 1000 → 1 ≤ team → team ≤ 4 → All (IsCall 12) (team_calls number team number)
unfolding team_calls
team_are_calls number team small least most =
    let a = first number team in
    let few = batches_few number team small least most in
    all_are_calls number (range_with_len a number)
    (All-weaker (λ (k : ℕ). (a ≤ k) × (k < a + number)) (λ (k : ℕ). (1 ≤ k) × (k ≤ 9999))
    (λ k is. (let above = is.0 in let below = is.1 in (omega (arith, above), omega (arith, below, few))))
    (range_with_len a number) (range_is a number))

-- ---- freezes

no_freeze_if :
    (third seventh : Bool) (b r : ℕ) (entered corrected : Call) → is_freeze entered ≡ false
    → is_freeze corrected ≡ false
    → count_by is_freeze
    ((entered ∷ [] ++ cond third (corrected ∷ []) []) ++ cond seventh (Change (Withdraw b r) ∷ []) []) ≡ 0
no_freeze_if false false b r entered corrected one other = rw one refl
no_freeze_if false true b r entered corrected one other = rw one refl
no_freeze_if true false b r entered corrected one other = rw (one, other) refl
no_freeze_if true true b r entered corrected one other = rw (one, other) refl

no_freezes : (number : ℕ) (bs : List ℕ) → count_by is_freeze (flat_map (batch_calls number) bs) ≡ 0
no_freezes number [] = refl
no_freezes number (b ∷ bs) =
    let k = draws_before b in
    let both =
    sum_by-append (λ (c : Call). cond (is_freeze c) 1 0) (batch_calls number b)
    (flat_map (batch_calls number) bs) in
    let here : count_by is_freeze (batch_calls number b) ≡ 0 =
    no_freeze_if (b % 3 == 0) (b % 7 == 0) b (revision b) (Change (Enter b (drawn_ballots number k)))
    (Change (Correct b 1 (drawn_ballots number (k + 40)))) refl refl in
    let rest = no_freezes number bs in
    omega (arith, both, here, rest)

team_freezes_not : (number team : ℕ) → count_by is_freeze (team_calls number team number) ≡ 0
unfolding team_calls
team_freezes_not number team = no_freezes number (range_with_len (first number team) number)

teams_freeze_not : (number : ℕ) (ts : List ℕ) → freezes (map (team_script number) ts) ≡ 0
teams_freeze_not number [] = refl
teams_freeze_not number (t ∷ ts) =
    let rest = teams_freeze_not number ts in
    let here = team_freezes_not number t in
    let both :
    freezes (team_script number t ∷ map (team_script number) ts)
    ≡ 0 + count_by is_freeze (team_calls number t number) + freezes (map (team_script number) ts) =
    sum_by-append (λ (s : Script). count_by is_freeze s.calls) (team_script number t ∷ []) (map (team_script number) ts) in
    omega (arith, rest, here, both)

-- ---- teams

numbers_are : (number : ℕ) (ts : List ℕ) → map (λ script. script.team) (map (team_script number) ts) ≡ ts
numbers_are number [] = refl
numbers_are number (t ∷ ts) = ap (λ l. t ∷ l) (numbers_are number ts)

different_range : (a n : ℕ) → AllPairs (λ p q. p ≢ q) (range_with_len a n)
different_range a n i j d before inside same =
    let many = length-range_with_len a n in
    let below : j < n = omega (arith, inside, many) in
    let one = get_or-range_with_len a n i d (omega (arith, before, below)) in
    let other = get_or-range_with_len a n j d below in
    absurd (omega (arith, one, other, same, before))

range_in : (n : ℕ) → n ≤ 16 → All (IsIn 16) (range_with_len 1 n)
range_in n few =
    All-weaker (λ (k : ℕ). (1 ≤ k) × (k < 1 + n)) (IsIn 16)
    (λ k is. (let above =
    is.0 in
    let below = is.1 in record { least = omega (arith, above); most = omega (arith, below, few) }))
    (range_with_len 1 n) (range_is 1 n)

pub are_teams : (number : ℕ) → number ≤ 1000 → AreTeams 12 (team_scripts number 4)
unfolding team_scripts
are_teams number small =
    let ts = range_with_len 1 4 in
    record {
      numbers =
          subst (AreDifferent 16) (sym (numbers_are number ts))
          (record { in_range = range_in 4 (omega arith); different = different_range 1 4 });
      calls = All-map (λ (script : Script). All (IsCall 12) script.calls) (team_script number) ts
          (All-weaker (λ (k : ℕ). (1 ≤ k) × (k < 1 + 4)) (λ (k : ℕ). All (IsCall 12) (team_calls number k number))
          (λ k is. (let above =
          is.0 in
          let below =
          is.1 in
          team_are_calls number k small (omega (arith, above)) (omega (arith, below)))) ts
          (range_is 1 4));
      few_freezes = (let none = teams_freeze_not number ts in omega (arith, none));
    }
