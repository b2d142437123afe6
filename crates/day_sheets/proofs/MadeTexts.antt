-- The text of a made day is written from the calls of its teams.
use Rattle.std.proofs.Common.{ℕ, ◌+◌, ◌-◌, ◌*◌, ◌%◌, ◌/◌, ◌==◌, ◌<◌, ◌≤◌, Bool, true, false, cond, List, []}
use Rattle.std.proofs.Common.{◌∷◌, ◌++◌, map, All, get_or, refl, sym, subst, arith, append-nil}
use Rattle.std.specs.Prelude.{codes}
use Rattle.std.specs.List.{flat_map, range_with_len}
use Rattle.std.proofs.lemmas.Nat.{mul-le}
use Rattle.std.proofs.lemmas.List.Concat.{flat_map-append}
use Rattle.std.proofs.lemmas.List.Elements.{All-head, All-tail, All-weaker}
use Rattle.std.proofs.lemmas.List.FromFn.{get_or-range_with_len, length-range_with_len}
use Rattle.input_text.specs.Token.{Number}
use Rattle.blt_reader.specs.Blt.{ballot, ballots}
use Rattle.input_text.specs.Written.{Spells}
use Rattle.input_text.proofs.Spelling.{numbers, number_spelled, words, parts, nothing, each_part}
use Rattle.batch_core.specs.declared.change.Change.TheVariants.{Enter, Correct, Withdraw}
use Rattle.batch_core.specs.declared.call.Call.{Call}
use Rattle.batch_core.specs.declared.call.Call.TheVariants.{Change}
use Rattle.day_reader.specs.declared.keyword.Keyword.TheVariants as key
use Rattle.day_reader.specs.Keyword.{word}
use Rattle.day_reader.specs.Call.{call_items}
use Rattle.day_reader.specs.Day.{team_items}
use Rattle.meek_trial.specs.Draws.{drawn, candidate, ranking}
use Rattle.meek_trial.specs.Trial as text
use Rattle.meek_trial.specs.Trial.{number_then, spaced, first, revision, draws_before}
use Rattle.day_sheets.specs.MadeDay.{drawn_line, drawn_lines, drawn_ballots, corrections, withdrawals}
use Rattle.day_sheets.specs.MadeDay.{batch_calls, team_calls, team_script, team_scripts}

-- the numbers of a range
pub range_is : (a n : ℕ) → All (λ k. (a ≤ k) × (k < a + n)) (range_with_len a n)
range_is a n i d inside =
    let many = length-range_with_len a n in
    let is =
    get_or-range_with_len a n i d (omega (arith, inside, many)) in
    (omega (arith, is), omega (arith, is, inside, many))

-- ---- words

enters : Spells (codes "enter ") (word key.Enter ∷ [])
enters = words 101 (codes "nter") 32 (refl, (refl, (refl, (refl, (refl, tt))))) refl

corrects : Spells (codes "correct ") (word key.Correct ∷ [])
corrects = words 99 (codes "orrect") 32 (refl, (refl, (refl, (refl, (refl, (refl, (refl, tt))))))) refl

withdraws : Spells (codes "withdraw ") (word key.Withdraw ∷ [])
withdraws = words 119 (codes "ithdraw") 32 (refl, (refl, (refl, (refl, (refl, (refl, (refl, (refl, tt)))))))) refl

team_word : Spells (codes "team ") (word key.Team ∷ [])
team_word = words 116 (codes "eam") 32 (refl, (refl, (refl, (refl, tt)))) refl

pub end_word : Spells (codes "end\n") (word key.End ∷ [])
end_word = words 101 (codes "nd") 10 (refl, (refl, (refl, tt))) refl

-- ---- ballots

candidates : (x : ℕ) (js : List ℕ) → Spells (spaced (map (candidate x) js)) (map Number (map (candidate x) js))
candidates x [] = nothing
candidates x (j ∷ js) =
    parts (number_then 32 (candidate x j)) (spaced (map (candidate x) js)) (Number (candidate x j) ∷ [])
    (map Number (map (candidate x) js))
    (numbers (candidate x j) 32 (omega arith) refl) (candidates x js)

zero_line : Spells (codes "0\n") (Number 0 ∷ [])
zero_line = number_spelled (codes "0") 10 0 (omega arith) (refl, tt) refl refl

one_ballot : (l x : ℕ) → Spells (text.ballot l x) (ballot (drawn_line l x))
one_ballot l x =
    parts (number_then 32 (1 + l % 9) ++ spaced (ranking x)) (codes "0\n")
    (Number (1 + l % 9) ∷ map Number (ranking x)) (Number 0 ∷ [])
    (parts (number_then 32 (1 + l % 9)) (spaced (ranking x)) (Number (1 + l % 9) ∷ []) (map Number (ranking x))
    (numbers (1 + l % 9) 32 (omega arith) refl) (candidates x (range_with_len 0 (1 + x / 65536 % 8))))
    zero_line

many_ballots : (number k n : ℕ) → Spells (text.ballots number k n) (flat_map ballot (drawn_lines number k n))
unfolding text.ballots drawn_lines
many_ballots number k n =
    each_part (λ l. text.ballot l (drawn number (k + l + 1))) ballot
    (λ l. drawn_line l (drawn number (k + l + 1))) (range_with_len 0 n)
    (λ i d inside. (let l = get_or (range_with_len 0 n) i d in one_ballot l (drawn number (k + l + 1))))

all_lines : (number k : ℕ) → Spells (text.lines number k) (ballots (drawn_lines number k 40))
all_lines number k =
    parts (text.ballots number k 40) (codes "0\n") (flat_map ballot (drawn_lines number k 40)) (Number 0 ∷ [])
    (many_ballots number k 40) zero_line

-- ---- calls

one_call : (bytes : List ℕ) (call : Call) → Spells bytes (call_items call) → Spells bytes (flat_map call_items (call ∷ []))
one_call bytes call s = subst (Spells bytes) (sym (append-nil (call_items call))) s

entering :
    (number b : ℕ) → b ≤ 9999
    → Spells (text.entering number b)
    (flat_map call_items (Change (Enter b (drawn_ballots number (draws_before b))) ∷ []))
entering number b most =
    let k = draws_before b in
    one_call (text.entering number b) (Change (Enter b (drawn_ballots number k)))
    (parts (codes "enter " ++ number_then 10 b) (text.lines number k) (word key.Enter ∷ Number b ∷ [])
    (ballots (drawn_lines number k 40))
    (parts (codes "enter ") (number_then 10 b) (word key.Enter ∷ []) (Number b ∷ []) enters
    (numbers b 10 (omega arith) refl)) (all_lines number k))

correcting_if : (third : Bool) (number b k : ℕ) → b ≤ 9999
    → Spells (cond third (((codes "correct " ++ number_then 32 b) ++ codes "1\n") ++ text.lines number k) [])
    (flat_map call_items (cond third (Change (Correct b 1 (drawn_ballots number k)) ∷ []) []))
correcting_if false number b k most = nothing
correcting_if true number b k most =
    one_call (((codes "correct " ++ number_then 32 b) ++ codes "1\n") ++ text.lines number k)
    (Change (Correct b 1 (drawn_ballots number k)))
    (parts ((codes "correct " ++ number_then 32 b) ++ codes "1\n") (text.lines number k)
    (word key.Correct ∷ Number b ∷ Number 1 ∷ []) (ballots (drawn_lines number k 40))
    (parts (codes "correct " ++ number_then 32 b) (codes "1\n") (word key.Correct ∷ Number b ∷ []) (Number 1 ∷ [])
    (parts (codes "correct ") (number_then 32 b) (word key.Correct ∷ []) (Number b ∷ []) corrects
    (numbers b 32 (omega arith) refl))
    (number_spelled (codes "1") 10 1 (omega arith) (refl, tt) refl refl)) (all_lines number k))

revision_few : (b : ℕ) → revision b ≤ 4294967295
revision_few b = grind arith

withdrawing_if : (seventh : Bool) (b : ℕ) → b ≤ 9999
    → Spells (cond seventh ((codes "withdraw " ++ number_then 32 b) ++ number_then 10 (revision b)) [])
    (flat_map call_items (cond seventh (Change (Withdraw b (revision b)) ∷ []) []))
withdrawing_if false b most = nothing
withdrawing_if true b most =
    one_call ((codes "withdraw " ++ number_then 32 b) ++ number_then 10 (revision b)) (Change (Withdraw b (revision b)))
    (parts (codes "withdraw " ++ number_then 32 b) (number_then 10 (revision b))
    (word key.Withdraw ∷ Number b ∷ []) (Number (revision b) ∷ [])
    (parts (codes "withdraw ") (number_then 32 b) (word key.Withdraw ∷ []) (Number b ∷ []) withdraws
    (numbers b 32 (omega arith) refl))
    (numbers (revision b) 10 (revision_few b) refl))

two_parts :
    (one other : List ℕ) (calls more : List Call) → Spells one (flat_map call_items calls)
    → Spells other (flat_map call_items more)
    → Spells (one ++ other) (flat_map call_items (calls ++ more))
two_parts one other calls more a b =
    subst (Spells (one ++ other)) (sym (flat_map-append call_items calls more))
    (parts one other (flat_map call_items calls) (flat_map call_items more) a b)

one_batch : (number b : ℕ) → b ≤ 9999 → Spells (text.batch number b) (flat_map call_items (batch_calls number b))
one_batch number b most =
    let entered = Change (Enter b (drawn_ballots number (draws_before b))) ∷ [] in
    two_parts (text.entering number b ++ text.correcting number b) (text.withdrawing b)
    (entered ++ corrections number b) (withdrawals b)
    (two_parts (text.entering number b) (text.correcting number b) entered (corrections number b) (entering number b most)
    (correcting_if (b % 3 == 0) number b (draws_before b + 40) most))
    (withdrawing_if (b % 7 == 0) b most)

each_batch : (number : ℕ) (bs : List ℕ) → All (λ b. b ≤ 9999) bs
    → Spells (flat_map (text.batch number) bs) (flat_map call_items (flat_map (batch_calls number) bs))
each_batch number [] most = nothing
each_batch number (b ∷ bs) most =
    two_parts (text.batch number b) (flat_map (text.batch number) bs) (batch_calls number b)
    (flat_map (batch_calls number) bs)
    (one_batch number b (All-head (λ (k : ℕ). k ≤ 9999) b bs most))
    (each_batch number bs (All-tail (λ (k : ℕ). k ≤ 9999) b bs most))

-- ---- teams

-- the batches of the four teams are numbered up to 9,999
pub batches_few : (number team : ℕ) → number ≤ 1000 → 1 ≤ team → team ≤ 4 → first number team + number ≤ 10000
batches_few number team small least most =
    let at_most : (team - 1) * number ≤ 3 * 1000 = mul-le (team - 1) number 3 1000 (omega arith) small in
    omega (arith, at_most)

many_batches :
    (number team : ℕ) → number ≤ 1000 → 1 ≤ team → team ≤ 4
    → Spells (text.batches number team number) (flat_map call_items (team_calls number team number))
unfolding text.batches team_calls
many_batches number team small least most =
    let a = first number team in
    let few = batches_few number team small least most in
    each_batch number (range_with_len a number)
    (All-weaker (λ (k : ℕ). (a ≤ k) × (k < a + number)) (λ (k : ℕ). k ≤ 9999)
    (λ k is. (let below = is.1 in omega (arith, below, few))) (range_with_len a number) (range_is a number))

one_team :
    (number team : ℕ) → number ≤ 1000 → 1 ≤ team → team ≤ 4
    → Spells (text.one_team number team) (team_items (team_script number team))
one_team number team small least most =
    parts (codes "team " ++ number_then 10 team) (text.batches number team number)
    (word key.Team ∷ Number team ∷ []) (flat_map call_items (team_calls number team number))
    (parts (codes "team ") (number_then 10 team) (word key.Team ∷ []) (Number team ∷ []) team_word
    (numbers team 10 (omega arith) refl))
    (many_batches number team small least most)

pub all_teams : (number : ℕ) → number ≤ 1000 → Spells (text.teams number 4) (flat_map team_items (team_scripts number 4))
unfolding text.teams team_scripts
all_teams number small =
    each_part (text.one_team number) team_items (team_script number) (range_with_len 1 4)
    (All-weaker (λ (k : ℕ). (1 ≤ k) × (k < 1 + 4))
    (λ (k : ℕ). Spells (text.one_team number k) (team_items (team_script number k)))
    (λ k is. (let above =
    is.0 in
    let below = is.1 in one_team number k small (omega (arith, above)) (omega (arith, below))))
    (range_with_len 1 4) (range_is 1 4))
