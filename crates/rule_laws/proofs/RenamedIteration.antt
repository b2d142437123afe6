-- An iteration without those who do not run, under other numbers.
use Rattle.std.proofs.Common.{◌≡◌, ℕ, ◌+◌, ◌-◌, ◌/◌, ◌<◌, ◌≤◌, ◌==◌, ◌&&◌, ◌||◌, nat_lt, nat_le, not, Bool}
use Rattle.std.proofs.Common.{true, false, cond, List, length, get_or, sum, arith, refl, ap, sym, subst, ◌∙◌}
use Rattle.std.proofs.Common.{inl, inr}
use Rattle.std.specs.List.{range_with_len, list_all}
use Rattle.std.proofs.lemmas.Bool.{cases_Bool, false≢true}
use Rattle.std.proofs.lemmas.List.Elements.{All-from_get_or}
use Rattle.std.proofs.lemmas.List.FromFn.{get_or-map-range_with_len, length-map-range_with_len}
use Rattle.candidate_roll.specs.State.{state_at}
use Rattle.candidate_roll.specs.declared.state.State.{State}
use Rattle.candidate_roll.specs.declared.state.State.TheVariants.{Elected as IsNowElected}
use Rattle.candidate_roll.specs.declared.state.State.TheVariants.{Defeated as IsNowDefeated, Withdrawn}
use Rattle.lot_order.specs.Flags.{mark_at}
use Rattle.lot_order.specs.Lots.{IsOrder, first_marked}
use Rattle.lot_order.proofs.LotsLemmas.{first_marked-order}
use Rattle.meek_rule.specs.declared.step.Step.{Step}
use Rattle.meek_rule.specs.declared.step.Step.TheVariants.{Elected, Iterate, Defeat}
use Rattle.meek_rule.specs.Places.{marked_count}
use Rattle.meek_rule.specs.Situation.{Situation, IsValid, is_complete, is_hopeful, is_elected, elected_count}
use Rattle.meek_rule.specs.Situation.{hopeful_count}
use Rattle.meek_rule.specs.Row.{Row}
use Rattle.meek_rule.specs.Winners.{AreWinners}
use Rattle.meek_rule.specs.KeepValues.{new_keeps, next_keep, new_keep, capped, is_capped, uncapped}
use Rattle.meek_rule.specs.Ties.{tied, is_tied, is_within_surplus}
use Rattle.meek_rule.specs.Iteration.{Settle, StepLeaves, elect, nobody, next_round, with_keeps}
use Rattle.meek_rule.proofs.PlaceLemmas.{all_places, all_from}
use Rattle.meek_rule.proofs.TieLemmas.{somebody_hopeful, tied-somebody}
use Rattle.rule_laws.specs.Renaming.{renamed_step, renamed_row}
use Rattle.rule_laws.proofs.Walk.{loser_is_hopeful}
use Rattle.rule_laws.proofs.Moved.{AreOut, marked-moved, moved, moved-at, moved-length, moved-places}
use Rattle.rule_laws.proofs.Moved.{nobody-moved, Numbering, place_by, place_inside, place_there, set-moved}
use Rattle.rule_laws.proofs.Moved.{states-moved, sum-moved}
use Rattle.rule_laws.proofs.Renamed.{AreNumbers, first_marked-renamed, lots_moved, situation_moved}
use Rattle.rule_laws.proofs.RenamedWinners.{marks_out, surplus-renamed, winners-renamed}

module _ (by : Numbering) where
  -- all who run are within the surplus where all candidates are
  within-renamed :
      (states : List State) (votes : List ℕ) (u p : ℕ) → p < by.new → AreOut by Withdrawn states
      → list_all (is_within_surplus states votes u (place_by by.from p)) (range_with_len 0 by.old)
      ≡ list_all (is_within_surplus (moved by Withdrawn states) (moved by 0 votes) u p)
      (range_with_len 0 by.new)
  within-renamed states votes u p below out =
      let test : ℕ → Bool = is_within_surplus states votes u (place_by by.from p) in
      let test_new : ℕ → Bool = is_within_surplus (moved by Withdrawn states) (moved by 0 votes) u p in
      let at : (b : ℕ) → b < by.new → test_new b ≡ test (place_by by.from b) =
      λ b inside. λ i. not (is_hopeful (moved-at by Withdrawn states b inside i))
      || nat_le (moved-at by 0 votes p below i) (moved-at by 0 votes b inside i + u) in
      elim (cases_Bool (list_all test (range_with_len 0 by.old))) [
        | inl all ↦
            all
            ∙ sym (all_from test_new by.new (λ b inside. at b inside
            ∙ all_places test by.old (place_by by.from b) all (place_inside by b inside).0))
        | inr fails ↦
            elim (cases_Bool (list_all test_new (range_with_len 0 by.new))) [
              | inr fails_too ↦ fails ∙ sym fails_too
              | inl all ↦
                  let by_place : (b : ℕ) → b < by.old → test b ≡ true = λ b inside.
                  elim (cases_Bool (by.runs (b + 1))) [
                    | inl runs ↦
                        let there = place_there by b inside runs in
                        ap test (sym there.1)
                        ∙ (sym (at (place_by by.to b) there.0)
                        ∙ all_places test_new by.new (place_by by.to b) all there.0)
                    | inr apart ↦
                        ap (λ (x : State). not (is_hopeful x)
                        || nat_le (get_or votes (place_by by.from p) 0) (get_or votes b 0 + u))
                        (out b inside apart)
                  ] in
                  absurd (false≢true (sym fails ∙ all_from test by.old by_place))
            ]
      ]

  tied-renamed :
      (states : List State) (votes : List ℕ) (u : ℕ) → length states ≡ by.old → AreOut by Withdrawn states
      → moved by false (tied states votes u) ≡ tied (moved by Withdrawn states) (moved by 0 votes) u
  tied-renamed states votes u long out =
      let test : ℕ → ℕ → Bool = is_within_surplus states votes u in
      let test_new : ℕ → ℕ → Bool = is_within_surplus (moved by Withdrawn states) (moved by 0 votes) u in
      let new_long : length (moved by Withdrawn states) ≡ by.new = moved-length by Withdrawn states in
      moved-places by false (is_tied states votes u)
      (is_tied (moved by Withdrawn states) (moved by 0 votes) u)
      (length states) (length (moved by Withdrawn states)) long new_long (λ p below.
      ap (λ (k : ℕ). is_hopeful (state_at states (place_by by.from p))
      && list_all (test (place_by by.from p)) (range_with_len 0 k)) long
      ∙ ((λ i. is_hopeful (sym (moved-at by Withdrawn states p below) i)
      && within-renamed states votes u p below out i)
      ∙ ap (λ (k : ℕ). is_hopeful (state_at (moved by Withdrawn states) p)
      && list_all (test_new p) (range_with_len 0 k)) (sym new_long)))

  tied_out : (states : List State) (votes : List ℕ) (u : ℕ) → length states ≡ by.old
      → AreOut by Withdrawn states
      → AreOut by false (tied states votes u)
  tied_out states votes u long out p below apart =
      get_or-map-range_with_len (is_tied states votes u) 0 (length states) p p false (omega arith)
      (omega arith)
      ∙ ap (λ (x : State). is_hopeful x
      && list_all (is_within_surplus states votes u p) (range_with_len 0 (length states))) (out p below apart)

  elect-renamed :
      (states : List State) (marks : List Bool) → length states ≡ by.old
      → moved by Withdrawn (elect states marks) ≡ elect (moved by Withdrawn states) (moved by false marks)
  elect-renamed states marks long =
      moved-places by Withdrawn (λ p. cond (mark_at marks p) IsNowElected (state_at states p))
      (λ p. cond (mark_at (moved by false marks) p) IsNowElected (state_at (moved by Withdrawn states) p))
      (length states) (length (moved by Withdrawn states)) long (moved-length by Withdrawn states) (λ p below.
      sym (λ i. cond (moved-at by false marks p below i) IsNowElected
      (moved-at by Withdrawn states p below i)))

  keeps-renamed :
      (s : ℕ) (states : List State) (keeps votes : List ℕ) (q : ℕ) → length states ≡ by.old
      → moved by 0 (new_keeps s states keeps votes q)
      ≡ new_keeps s (moved by Withdrawn states) (moved by 0 keeps) (moved by 0 votes) q
  keeps-renamed s states keeps votes q long =
      moved-places by 0 (next_keep s states keeps votes q)
      (next_keep s (moved by Withdrawn states) (moved by 0 keeps) (moved by 0 votes) q)
      (length states) (length (moved by Withdrawn states)) long (moved-length by Withdrawn states) (λ p below.
      sym (λ i. cond (is_elected (moved-at by Withdrawn states p below i))
      (new_keep s q (moved-at by 0 keeps p below i) (moved-at by 0 votes p below i))
      (moved-at by 0 keeps p below i)))

  capped-renamed :
      (s : ℕ) (states : List State) (keeps votes : List ℕ) (q : ℕ) → length states ≡ by.old
      → moved by false (capped s states keeps votes q)
      ≡ capped s (moved by Withdrawn states) (moved by 0 keeps) (moved by 0 votes) q
  capped-renamed s states keeps votes q long =
      moved-places by false (is_capped s states keeps votes q)
      (is_capped s (moved by Withdrawn states) (moved by 0 keeps) (moved by 0 votes) q)
      (length states) (length (moved by Withdrawn states)) long (moved-length by Withdrawn states) (λ p below.
      sym (λ i. is_elected (moved-at by Withdrawn states p below i)
      && not (moved-at by 0 votes p below i == 0) && nat_lt s
      (uncapped s q (moved-at by 0 keeps p below i) (moved-at by 0 votes p below i))))

  -- who is hopeful runs
  hopeful-runs : (states : List State) (c : ℕ) → AreOut by Withdrawn states → 1 ≤ c → c ≤ by.old
      → is_hopeful (state_at states (c - 1)) ≡ true → by.runs c ≡ true
  hopeful-runs states c out some within hopeful =
      elim (cases_Bool (by.runs c)) [
        | inl runs ↦ runs
        | inr apart ↦
            let number : c - 1 + 1 ≡ c = omega arith in
            let gone = out (c - 1) (omega arith) (ap by.runs number ∙ apart) in
            absurd (false≢true (sym (ap is_hopeful gone) ∙ hopeful))
      ]

  pub settle-renamed :
      (s : ℕ) (now : Situation) (votes lots : List ℕ) (row : Row) (next : Situation)
      → IsOrder lots → length lots ≡ length now.states → length now.states ≡ by.old → length votes ≡ by.old
      → AreOut by Withdrawn now.states → AreOut by 0 votes → IsValid s now → is_complete now ≡ false
      → Settle s now votes lots row next
      → Settle s (situation_moved by now) (moved by 0 votes) (lots_moved by lots)
      (renamed_row by.new by.to by.from row) (situation_moved by next)
  settle-renamed s now votes lots row next order all long as_long out no_votes valid going settle =
      let sums : sum (moved by 0 votes) ≡ sum votes = sum-moved by votes no_votes as_long in
      let elected : elected_count (moved by Withdrawn now.states) ≡ elected_count now.states =
      states-moved by is_elected now.states refl out long in
      record {
        round = settle.round;
        iteration = settle.iteration;
        states = ap (moved by Withdrawn) settle.states;
        keeps = ap (moved by 0) settle.keeps;
        votes_are = ap (moved by 0) settle.votes_are;
        total = settle.total ∙ sym sums;
        quota_is = settle.quota_is ∙ ap (λ (t : ℕ). t / (now.seats + 1) + 1) (sym sums);
        winners =
            subst (λ (e : ℕ). AreWinners (moved by Withdrawn now.states) (now.seats - e)
            (moved by 0 votes) (lots_moved by lots) row.quota (moved by false row.elected)) (sym elected)
            (winners-renamed by now.states (now.seats - elected_count now.states) votes lots row.quota
            row.elected numbers long out settle.winners);
        surplus_is = settle.surplus_is
            ∙ sym (surplus-renamed by now.states row.elected votes row.quota long out unmarked);
        leaves = by_step row.step settle.leaves;
      }
    where
      numbers : AreNumbers by.old lots
      numbers =
          All-from_get_or (λ (c : ℕ). (1 ≤ c) × (c ≤ by.old)) lots 0
          (λ k below. (let number = order.candidates k below in (omega arith, omega arith)))

      unmarked : AreOut by false row.elected
      unmarked =
          marks_out by now.states (now.seats - elected_count now.states) votes lots row.quota row.elected out
          settle.winners

      none : moved by false (nobody now) ≡ nobody (situation_moved by now)
      none = nobody-moved by (length now.states) (length (moved by Withdrawn now.states)) long
          (moved-length by Withdrawn now.states)

      marks : marked_count (moved by false row.elected) ≡ marked_count row.elected
      marks = marked-moved by row.elected unmarked (settle.winners.same_length ∙ long)

      by_step : (step : Step) → StepLeaves s now lots row step next
          → StepLeaves s (situation_moved by now) (lots_moved by lots) (renamed_row by.new by.to by.from row)
          (renamed_step by.to step) (situation_moved by next)
      by_step Elected leaves = (
        omega (arith, leaves.0, marks),
        ap (situation_moved by) leaves.1
            ∙ ap (λ (x : List State). record (next_round (situation_moved by now)) { states = x })
            (elect-renamed now.states row.elected long),
        ap (moved by false) leaves.2 ∙ none,
        ap (moved by false) leaves.3 ∙ none,
      )
      by_step (Defeat c) leaves =
          let loser = loser_is_hopeful s now lots row next c leaves valid going order all in
          let some_hopeful : 1 ≤ hopeful_count now.states = somebody_hopeful s now valid going in
          let one = tied-somebody now.states row.votes lots row.surplus order all some_hopeful in
          let marked : mark_at row.tied one.0 ≡ true =
          ap (λ (m : List Bool). mark_at m one.0) leaves.2 ∙ one.1 in
          let tied_long : length row.tied ≡ length lots =
          ap length leaves.2
          ∙ (length-map-range_with_len (is_tied now.states row.votes row.surplus) 0 (length now.states)
          ∙ sym all) in
          let some : 1 ≤ first_marked lots row.tied =
          first_marked-order lots row.tied one.0 order tied_long marked in
          let number : 1 ≤ c = subst (λ (k : ℕ). 1 ≤ k) (sym leaves.3) some in
          let within : c ≤ by.old = omega (arith, loser.0) in
          let runs : by.runs c ≡ true = hopeful-runs now.states c out number within loser.1 in
          let untied : AreOut by false row.tied =
          subst (AreOut by false) (sym leaves.2) (tied_out now.states row.votes row.surplus long out) in (
            marks ∙ leaves.0,
            leaves.1,
            ap (moved by false) leaves.2 ∙ tied-renamed now.states row.votes row.surplus long out,
            ap by.to leaves.3 ∙ sym (first_marked-renamed by lots row.tied numbers untied some),
            ap (situation_moved by) leaves.4
                ∙ (λ i. record (next_round (situation_moved by now)) {
                  states = set-moved by Withdrawn IsNowDefeated now.states c long number within runs i;
                  keeps = set-moved by 0 0 now.keeps c (valid.same_length ∙ long) number within runs i;
                }),
            ap (moved by false) leaves.5 ∙ none,
          )
      by_step Iterate leaves = (
        marks ∙ leaves.0,
        leaves.1,
        ap (moved by false) leaves.2 ∙ capped-renamed s now.states now.keeps row.votes row.quota long,
        ap (situation_moved by) leaves.3
            ∙ ap (λ (k : List ℕ). with_keeps (situation_moved by now) k row.surplus)
            (keeps-renamed s now.states now.keeps row.votes row.quota long),
        ap (moved by false) leaves.4 ∙ none,
      )
