-- A made day has one summary, since each of its batches is called by one team alone.
use Rattle.std.proofs.Common.{◌≡◌, ℕ, zero, suc, ◌+◌, ◌-◌, ◌*◌, ◌/◌, ◌%◌, ◌==◌, ◌<◌, ◌≤◌, Bool, true, false}
use Rattle.std.proofs.Common.{cond, List, [], ◌∷◌, ◌++◌, length, map, filter, get_or, take, All}
use Rattle.std.proofs.Common.{refl, sym, ap, ◌∙◌, subst, arith}
use Rattle.std.specs.List.{range_with_len, flat_map}
use Rattle.std.proofs.lemmas.Nat.{div-mul-add}
use Rattle.std.proofs.lemmas.List.{take_all, length-map}
use Rattle.std.proofs.lemmas.List.FromFn.{length-map-range_with_len, length-range_with_len}
use Rattle.std.proofs.lemmas.List.FromFn.{get_or-range_with_len, get_or-map-range_with_len}
use Rattle.std.proofs.lemmas.List.Elements.{All-nil, All-cons, All-head, All-tail, All-append, All-map, All-weaker}
use Rattle.fixed_place.specs.Rounding.{scale}
use Rattle.fixed_place.proofs.RoundingLemmas.{scale_pos}
use Rattle.plain_ballots.specs.Ballots.{plain}
use Rattle.plain_ballots.specs.declared.ballot_line.BallotLine.{BallotLine}
use Rattle.candidate_roll.specs.Roll.{RollList, IsRoll}
use Rattle.lot_order.specs.Lots.{IsOrder}
use Rattle.batch_core.specs.declared.change.Change.TheVariants.{Enter, Correct, Withdraw}
use Rattle.batch_core.specs.declared.call.Call.{Call}
use Rattle.batch_core.specs.declared.call.Call.TheVariants.{Change}
use Rattle.batch_core.specs.declared.entry.Entry.{Entry}
use Rattle.batch_core.specs.Book.{BookState, empty, standing}
use Rattle.batch_core.specs.Histories.{after_all, standing_after, struck_after}
use Rattle.meek_rule.specs.Rule.{Meek}
use Rattle.meek_rule.specs.Situation.{opening}
use Rattle.meek_rule.specs.Row.{Row}
use Rattle.meek_count.specs.Rows.{IsCount}
use Rattle.meek_count.proofs.WholeCount.{rows-unique, valid-opening_of_roll, length-opening}
use Rattle.sheet_text.specs.Lines.{text_of_lines}
use Rattle.day_reader.specs.declared.script.Script.{Script}
use Rattle.day_reader.specs.Day.{by_number}
use Rattle.meek_trial.specs.Trial.{draws_before, first, revision}
use Rattle.day_sheets.specs.Laws.{IsOfOwn, AreSeparate, EachMadeDayHasOneSummary}
use Rattle.day_sheets.specs.MadeDay.{drawn_ballots, corrections, withdrawals, batch_calls, team_calls}
use Rattle.day_sheets.specs.MadeDay.{team_script, team_scripts, made_day, trial_lots}
use Rattle.lane_sheet.specs.Due.{CountDue, due_of}
use Rattle.day_sheets.specs.declared.summary.Summary.{Summary}
use Rattle.day_lines.specs.declared.terms.Terms.{Terms}
use Rattle.day_lines.specs.DayText.{roll_with, terms_of}
use Rattle.day_sheets.specs.Summary.{IsSummary, IsSummaryDue, standing_batches, last_round, summary_lines}
use Rattle.day_lines.proofs.TermsLemmas.{AreTerms, still_a_roll}
use Rattle.day_sheets.proofs.Separate.{end_alike}

-- ---- each batch is its team's own

-- the team of a batch
abbrev team_of : (number batch : ℕ) → ℕ
team_of number batch = (batch - 1) / number + 1

-- batch r of a team, from 0, is the team's
its_own : (number team r : ℕ) → 1 ≤ team → r < number → team_of number (first number team + r) ≡ team
its_own number team r some few =
    let place : first number team + r - 1 ≡ (team - 1) * number + r = omega arith in
    let cut = ap (λ (n : ℕ). n / number) place ∙ div-mul-add (team - 1) number r few in
    omega (arith, cut, some)

module _ (number team b : ℕ) (own : team_of number b ≡ team) where
  correction_own :
      (third : Bool) (k : ℕ)
      → All (IsOfOwn (team_of number) team)
      (cond third (Change (Correct b 1 (drawn_ballots number k)) ∷ []) [])
  correction_own false k = All-nil (IsOfOwn (team_of number) team)
  correction_own true k =
      All-cons (IsOfOwn (team_of number) team) (Change (Correct b 1 (drawn_ballots number k))) [] own
      (All-nil (IsOfOwn (team_of number) team))

  withdrawal_own :
      (seventh : Bool)
      → All (IsOfOwn (team_of number) team) (cond seventh (Change (Withdraw b (revision b)) ∷ []) [])
  withdrawal_own false = All-nil (IsOfOwn (team_of number) team)
  withdrawal_own true =
      All-cons (IsOfOwn (team_of number) team) (Change (Withdraw b (revision b))) [] own
      (All-nil (IsOfOwn (team_of number) team))

  batch_own : All (IsOfOwn (team_of number) team) (batch_calls number b)
  batch_own =
      let k = draws_before b in
      All-append (IsOfOwn (team_of number) team)
      (Change (Enter b (drawn_ballots number k)) ∷ corrections number b) (withdrawals b)
      (All-cons (IsOfOwn (team_of number) team) (Change (Enter b (drawn_ballots number k))) (corrections number b)
      own (correction_own (b % 3 == 0) (k + 40)))
      (withdrawal_own (b % 7 == 0))

batches_own : (number team : ℕ) (bs : List ℕ) → All (λ b. team_of number b ≡ team) bs
    → All (IsOfOwn (team_of number) team) (flat_map (batch_calls number) bs)
batches_own number team [] are = All-nil (IsOfOwn (team_of number) team)
batches_own number team (b ∷ bs) are =
    All-append (IsOfOwn (team_of number) team) (batch_calls number b) (flat_map (batch_calls number) bs)
    (batch_own number team b (All-head (λ (k : ℕ). team_of number k ≡ team) b bs are))
    (batches_own number team bs (All-tail (λ (k : ℕ). team_of number k ≡ team) b bs are))

team_own : (number team : ℕ) → 1 ≤ team → All (IsOfOwn (team_of number) team) (team_calls number team number)
unfolding team_calls
team_own number team some =
    let a = first number team in
    batches_own number team (range_with_len a number)
    (λ i d inside.
    let many = length-range_with_len a number in
    let below : i < number = omega (arith, inside, many) in
    ap (team_of number) (get_or-range_with_len a number i d below) ∙ its_own number team i some below)

-- what holds of all scripts holds of those that are taken, and of them by number
module _ (P : Script → Type 0) where
  taken : (test : Script → Bool) (scripts : List Script) → All P scripts → All P (filter test scripts)
  taken test [] all = All-nil P
  taken test (s ∷ ss) all = by (test s) (All-head P s ss all) (taken test ss (All-tail P s ss all))
    where
      by : (t : Bool) → P s → All P (filter test ss) → All P (cond t (s ∷ filter test ss) (filter test ss))
      by true here rest = All-cons P s (filter test ss) here rest
      by false here rest = rest

  each_number : (teams : List Script) (numbers : List ℕ) → All P teams
      → All P (flat_map (λ number. filter (λ script. script.team == number) teams) numbers)
  each_number teams [] all = All-nil P
  each_number teams (n ∷ ns) all =
      All-append P (filter (λ (s : Script). s.team == n) teams)
      (flat_map (λ number. filter (λ (s : Script). s.team == number) teams) ns)
      (taken (λ (s : Script). s.team == n) teams all) (each_number teams ns all)

  all_by_number : (teams : List Script) → All P teams → All P (by_number teams)
  unfolding by_number
  all_by_number teams all = each_number teams (range_with_len 1 16) all

teams_own : (number : ℕ) → All (λ s. All (IsOfOwn (team_of number) s.team) s.calls) (team_scripts number 4)
unfolding team_scripts
teams_own number =
    All-map (λ (s : Script). All (IsOfOwn (team_of number) s.team) s.calls) (team_script number) (range_with_len 1 4)
    (λ i d inside.
    let many = length-range_with_len 1 4 in
    let is = get_or-range_with_len 1 4 i d (omega (arith, inside, many)) in
    team_own number _ (omega (arith, is)))

made_separate : (number : ℕ) → AreSeparate (team_of number) (made_day number).scripts
made_separate number =
    all_by_number (λ (s : Script). All (IsOfOwn (team_of number) s.team) s.calls) (team_scripts number 4) (teams_own number)

-- ---- what is summed up

-- what is counted after all calls of a history
abbrev due_after : Terms → (length : ℕ) → List Entry → CountDue
due_after terms n history =
    due_of terms.omega terms.lots (roll_with terms.roll (struck_after history n)) (plain (standing_after history n))

-- the same, of the book that the history has led to
abbrev due_in_book : Terms → BookState → CountDue
due_in_book terms book = due_of terms.omega terms.lots (roll_with terms.roll book.struck) (plain (standing book))

in_book :
    (terms : Terms) (history : List Entry)
    → due_after terms (length history) history ≡ due_in_book terms (after_all empty history)
in_book terms history =
    ap (λ (h : List Entry). due_in_book terms (after_all empty h)) (take_all (length history) history (omega arith))

module _ (number : ℕ) (terms : Terms) (are : AreTerms terms) where
  -- histories of as many calls that end in the same book have one summary
  alike_in_book :
      (one other : List Entry) (a b : List ℕ) → length one ≡ length other → after_all empty one ≡ after_all empty other
      → IsSummaryDue number terms.places one (due_in_book terms (after_all empty one)) a
      → IsSummaryDue number terms.places other (due_in_book terms (after_all empty one)) b → a ≡ b
  alike_in_book one other a b long books (rows, last, count, text) (others, end, again, too) =
      let s = scale terms.places in
      let due = due_in_book terms (after_all empty one) in
      let roll = still_a_roll terms.roll (after_all empty one).struck are.roll in
      let same =
      rows-unique Meek s due.ballots due.lots (opening s due.omega due.roll.seats due.roll.withdrawn) rows
      others last end (scale_pos terms.places)
      (valid-opening_of_roll s due.omega due.roll are.some_omega are.small_omega roll) are.order
      (are.lots_of_all ∙ sym (length-opening s due.omega due.roll roll)) count again in
      text
      ∙ ((λ i. let summary : Summary = record {
        number = number;
        calls = long i;
        batches = standing_batches (books i);
        ballots = length due.ballots;
        rounds = last_round (sym same.0 i);
        iterations = length (sym same.0 i);
      } in text_of_lines (summary_lines summary (sym same.1 i)))
      ∙ sym too)

  pub one_summary :
      (one other : List Entry) (a b : List ℕ) → length one ≡ length other → after_all empty one ≡ after_all empty other
      → IsSummary number terms one a → IsSummary number terms other b → a ≡ b
  one_summary one other a b long books is too =
      alike_in_book one other a b long books
      (subst (λ (due : CountDue). IsSummaryDue number terms.places one due a) (in_book terms one) is)
      (subst (λ (due : CountDue). IsSummaryDue number terms.places other due b)
      (in_book terms other ∙ ap (due_in_book terms) (sym books)) too)

-- ---- the terms of a made day

-- the lots are every candidate once
lot_at : (i d : ℕ) → i < 12 → get_or trial_lots i d ≡ 12 - i
lot_at i d inside = get_or-map-range_with_len (λ i. 12 - i) 0 12 i i d inside (omega arith)

made_order : IsOrder trial_lots
made_order = record {
  few = omega arith;
  candidates = λ i inside.
      let is = lot_at i 0 inside in
      (omega (arith, is, inside), omega (arith, is, inside));
  different = λ i j first second same.
      let one = lot_at i 0 first in
      let other = lot_at j 0 second in
      omega (arith, one, other, same, first, second);
  whole = λ c least most.
      let at = lot_at (12 - c) c (omega (arith, least)) in
      let back : 12 - (12 - c) ≡ c = omega (arith, most) in
      (12 - c, omega (arith, least), at ∙ back);
}

made_terms : (number : ℕ) → AreTerms (terms_of (made_day number))
made_terms number = record {
  some_omega = omega arith;
  small_omega = omega arith;
  roll = record {
    some_seat = omega arith;
    few_seats = omega arith;
    some_candidate = omega arith;
    few_candidates = omega arith;
    same_length = refl;
  };
  order = made_order;
  lots_of_all = refl;
}

pub one_of_each : EachMadeDayHasOneSummary
one_of_each number one other a b is too says again =
    let alike = end_alike (team_of number) (made_day number).scripts one other (made_separate number) is too in
    one_summary number (terms_of (made_day number)) (made_terms number) one other a b alike.0 alike.1 says again
