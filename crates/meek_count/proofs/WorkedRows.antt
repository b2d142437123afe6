-- Worked counts, by computing: the rows that the rule writes, where it is known of each who is elected and what its step is.
use Rattle.std.proofs.Common.{◌≡◌, ℕ, ◌-◌, ◌==◌, ◌&&◌, not, Bool, true, List, [], ◌∷◌, length, sum, refl, ap, subst}
use Rattle.std.specs.Prelude.{nat_le}
use Rattle.std.proofs.lemmas.Bool.{not-true, eqb-true, leb-true}
use Rattle.candidate_roll.specs.declared.state.State.{State}
use Rattle.lot_order.specs.Lots.{first_marked}
use Rattle.meek_rule.specs.declared.step.Step.{Step}
use Rattle.meek_rule.specs.declared.step.Step.TheVariants.{Elected, Iterate, Defeat}
use Rattle.meek_rule.specs.Places.{marked_count}
use Rattle.meek_rule.specs.Situation.{Situation, is_complete, elected_count, final_states}
use Rattle.meek_rule.specs.Row.{Row}
use Rattle.meek_rule.specs.Rule.{Rule}
use Rattle.meek_rule.specs.Quota.{quota}
use Rattle.meek_rule.specs.Surplus.{surplus}
use Rattle.meek_rule.specs.KeepValues.{new_keeps, capped}
use Rattle.meek_rule.specs.Ties.{tied}
use Rattle.meek_rule.specs.Winners.{AreWinners}
use Rattle.meek_rule.specs.Weights.{votes_under}
use Rattle.meek_rule.specs.Iteration.{Settle, StepLeaves, nobody, has_to_defeat, with_elected, with_defeated, with_keeps}
use Rattle.meek_rule.proofs.TestLemmas.{and_first, and_second}
use Rattle.meek_rule.proofs.WinnersByTest.{pass_as_winners, winners_by_test}
use Rattle.meek_count.specs.Rows.{Rows}

-- what the votes of the candidates are, by their keep values and how many they are
abbrev pub Votes : Type 0
Votes = (keeps : List ℕ) → (candidates : ℕ) → List ℕ

abbrev capped_on : (s : ℕ) → Situation → Row → Step → List Bool
capped_on s now row Elected = nobody now
capped_on s now row (Defeat c) = nobody now
capped_on s now row Iterate = capped s now.states now.keeps row.votes row.quota

abbrev tied_on : Situation → Row → Step → List Bool
tied_on now row Elected = nobody now
tied_on now row (Defeat c) = tied now.states row.votes row.surplus
tied_on now row Iterate = nobody now

-- a row as the rule writes it, with the same who are elected and the same step
abbrev pub written : Votes → (s : ℕ) → Situation → Row → Row
written votes s now row = record row {
  round = now.round;
  iteration = now.iteration;
  states = now.states;
  keeps = now.keeps;
  votes = votes now.keeps (length now.states);
  total = sum (votes now.keeps (length now.states));
  quota = quota now.seats (votes now.keeps (length now.states));
  surplus = surplus now.states row.elected (votes now.keeps (length now.states)) row.quota;
  capped = capped_on s now row row.step;
  tied = tied_on now row row.step;
}

-- where its step leads
abbrev pub next_of : (s : ℕ) → Situation → Row → Step → Situation
next_of s now row Elected = with_elected now row.elected
next_of s now row (Defeat c) = with_defeated now c
next_of s now row Iterate = with_keeps now (new_keeps s now.states now.keeps row.votes row.quota) row.surplus

-- all rows, and where they lead
abbrev pub all_written : Votes → (s : ℕ) → Situation → List Row → List Row
all_written votes s now [] = []
all_written votes s now (row ∷ rows) = written votes s now row ∷ all_written votes s (next_of s now row row.step) rows

abbrev pub end_of : (s : ℕ) → Situation → List Row → Situation
end_of s now [] = now
end_of s now (row ∷ rows) = end_of s (next_of s now row row.step) rows

-- whether the step is the rule's, where a test says whom the lots take
abbrev pub is_due : (takes : ℕ → List Bool → Bool) → Situation → Row → Step → Bool
is_due takes now row Elected = nat_le 1 (marked_count row.elected)
is_due takes now row (Defeat c) = (marked_count row.elected == 0) && (has_to_defeat now row.surplus && takes c row.tied)
is_due takes now row Iterate = (marked_count row.elected == 0) && not (has_to_defeat now row.surplus)

-- whether the elected and the step of each row are the rule's, and the rows lead to the end of a count
abbrev pub all_due : (takes : ℕ → List Bool → Bool) → (s : ℕ) → (lots : List ℕ) → Situation → List Row → Bool
all_due takes s lots now [] = is_complete now
all_due takes s lots now (row ∷ rows) =
    not (is_complete now)
    && (pass_as_winners now.states (now.seats - elected_count now.states) row.votes lots row.quota row.elected
    && (is_due takes now row row.step && all_due takes s lots (next_of s now row row.step) rows))

abbrev first_or : Row → List Row → Row
first_or row [] = row
first_or row (first ∷ rows) = first

abbrev rest : List Row → List Row
rest [] = []
rest (row ∷ rows) = rows

due_leaves :
    (takes : ℕ → List Bool → Bool) (s : ℕ) (lots : List ℕ) (now : Situation) (row : Row)
    → ((c : ℕ) (marks : List Bool) → takes c marks ≡ true → c ≡ first_marked lots marks)
    → (step : Step) → is_due takes now row step ≡ true → row.capped ≡ capped_on s now row step
    → row.tied ≡ tied_on now row step → StepLeaves s now lots row step (next_of s now row step)
due_leaves takes s lots now row taken Elected due capped_is tied_is = (leb-true _ _ due, refl, capped_is, tied_is)
due_leaves takes s lots now row taken (Defeat c) due capped_is tied_is =
    let nobody_elected = and_first _ _ due in
    let rest_due = and_second _ _ due in (
      eqb-true _ _ nobody_elected,
      and_first _ _ rest_due,
      tied_is,
      taken c row.tied (and_second _ _ rest_due),
      refl,
      capped_is,
    )
due_leaves takes s lots now row taken Iterate due capped_is tied_is =
    (eqb-true _ _ (and_first _ _ due), not-true _ (and_second _ _ due), capped_is, refl, tied_is)

-- Rows that pass, and are written as the rule writes them, are those of the count.
pub counted :
    (rule : Rule) (votes : Votes) (takes : ℕ → List Bool → Bool) (s : ℕ) (ballots : List (List ℕ)) (lots : List ℕ)
    → ((keeps : List ℕ) (n : ℕ) → votes keeps n ≡ votes_under rule s keeps ballots n)
    → ((c : ℕ) (marks : List Bool) → takes c marks ≡ true → c ≡ first_marked lots marks)
    → (now : Situation) (rows : List Row) (last : List State)
    → all_due takes s lots now rows ≡ true → rows ≡ all_written votes s now rows
    → last ≡ final_states (end_of s now rows) → Rows rule s ballots lots now rows last
counted rule votes takes s ballots lots same taken now [] last due is end = (due, end)
counted rule votes takes s ballots lots same taken now (row ∷ rows) last due is end =
    let given : List ℕ = votes now.keeps (length now.states) in
    let next : Situation = next_of s now row row.step in
    let due1 = and_second _ _ due in
    let due2 = and_second _ _ due1 in
    let this : row ≡ written votes s now row = ap (first_or row) is in
    let winners : AreWinners now.states (now.seats - elected_count now.states) row.votes lots row.quota row.elected =
    winners_by_test _ _ _ _ _ _ (and_first _ _ due1) in
    let settle : Settle s now given lots row next = record {
      round = ap (λ (r : Row). r.round) this;
      iteration = ap (λ (r : Row). r.iteration) this;
      states = ap (λ (r : Row). r.states) this;
      keeps = ap (λ (r : Row). r.keeps) this;
      votes_are = ap (λ (r : Row). r.votes) this;
      total = ap (λ (r : Row). r.total) this;
      quota_is = ap (λ (r : Row). r.quota) this;
      winners =
          subst (λ (v : List ℕ). AreWinners now.states (now.seats - elected_count now.states) v lots row.quota row.elected)
          (ap (λ (r : Row). r.votes) this) winners;
      surplus_is = ap (λ (r : Row). r.surplus) this;
      leaves =
          due_leaves takes s lots now row taken row.step (and_first _ _ due2) (ap (λ (r : Row). r.capped) this)
          (ap (λ (r : Row). r.tied) this);
    } in (
      not-true _ (and_first _ _ due),
      (
        next,
        subst (λ (v : List ℕ). Settle s now v lots row next) (same now.keeps (length now.states)) settle,
        counted rule votes takes s ballots lots same taken next rows last (and_second _ _ due2) (ap rest is) end,
      ),
    )

-- The same where the ballots are gone through one by one, with these lots.
pub counted_with :
    (rule : Rule) (s : ℕ) (ballots : List (List ℕ)) (lots : List ℕ) (now : Situation) (rows : List Row) (last : List State)
    → all_due (λ c marks. c == first_marked lots marks) s lots now rows ≡ true
    → rows ≡ all_written (λ keeps n. votes_under rule s keeps ballots n) s now rows
    → last ≡ final_states (end_of s now rows) → Rows rule s ballots lots now rows last
counted_with rule s ballots lots =
    counted rule (λ keeps n. votes_under rule s keeps ballots n) (λ c marks. c == first_marked lots marks) s ballots lots
    (λ keeps n. refl) (λ c marks taken. eqb-true _ _ taken)
