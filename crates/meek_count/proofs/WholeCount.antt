-- From each situation just one list of rows leads to the end, whatever the order of the ballots.
use Rattle.std.proofs.Common.{◌≡◌, ℕ, ◌+◌, ◌*◌, ◌<◌, ◌≤◌, ◌↔◌, false, List, [], ◌∷◌, length, get_or, sum, All}
use Rattle.std.proofs.Common.{arith, refl, ap, sym, subst, ◌∙◌, inl, inr, zero, suc}
use Rattle.std.specs.List.Sorted.{IsPermutation}
use Rattle.std.proofs.lemmas.Bool.{cases_Bool}
use Rattle.std.proofs.lemmas.List.Elements.{All-from_get_or}
use Rattle.std.proofs.lemmas.List.FromFn.{length-map-range_with_len, fill_by_all, get_or-map-range_with_len}
use Rattle.std.proofs.lemmas.List.Sorted.{sum_by-IsPermutation, IsPermutation-sym}
use Rattle.fixed_place.specs.declared.omega.TheConstants.{MOST_OMEGA}
use Rattle.fixed_place.specs.Rounding.{scale}
use Rattle.fixed_place.proofs.RoundingLemmas.{scale_pos}
use Rattle.candidate_roll.specs.Roll.{RollList, IsRoll}
use Rattle.candidate_roll.specs.State.{state_at}
use Rattle.candidate_roll.specs.declared.state.State.{State}
use Rattle.candidate_roll.specs.declared.state.State.TheVariants.{Hopeful, Elected, Defeated, Withdrawn}
use Rattle.lot_order.specs.Lots.{IsOrder}
use Rattle.meek_rule.specs.Situation.{Situation, IsValid, FitsState, is_complete, final_states, opening, steps_left}
use Rattle.meek_rule.specs.Row.{Row}
use Rattle.meek_rule.specs.Rule.{Rule}
use Rattle.meek_rule.specs.Iteration.{Settle}
use Rattle.meek_rule.specs.Weights.{given_under, vote_under, votes_under}
use Rattle.meek_rule.proofs.ValidLemmas.{valid-opening}
use Rattle.meek_count.specs.Rows.{Rows, IteratesTo, IsCountUnder}
use Rattle.meek_count.specs.Laws.{AreOnly, IsElection}
use Rattle.meek_rule.proofs.TotalLemmas.{sum-votes-le}
use Rattle.meek_count.proofs.OneIteration.{settle-unique}
use Rattle.meek_count.proofs.NextIteration.{goes_on, GoesOn}

fits-le : (s : ℕ) (state : State) (keep : ℕ) → FitsState s state keep → keep ≤ s
fits-le s Hopeful keep fits = omega arith
fits-le s Elected keep fits = fits
fits-le s Defeated keep fits = omega arith
fits-le s Withdrawn keep fits = omega arith

-- no keep value of a valid situation is above one vote
pub keeps-le : (s : ℕ) (now : Situation) → IsValid s now → All (λ k. k ≤ s) now.keeps
keeps-le s now valid =
    All-from_get_or (λ (k : ℕ). k ≤ s) now.keeps 0
    (λ p below. fits-le s (state_at now.states p) (get_or now.keeps p 0)
    (valid.fitting p (omega (arith, valid.same_length))))

-- the votes of a valid situation are at most one for each ballot
pub sum-votes-valid :
    (rule : Rule) (s : ℕ) (ballots : List (List ℕ)) (now : Situation) → 1 ≤ s → IsValid s now
    → sum (votes_under rule s now.keeps ballots (length now.states)) ≤ length ballots * s
sum-votes-valid rule s ballots now pos valid =
    sum-votes-le rule s now.keeps ballots (length now.states) pos (keeps-le s now valid)

-- the rule goes on with the votes of the ballots
pub iteration_exists :
    (rule : Rule) (s : ℕ) (ballots : List (List ℕ)) (lots : List ℕ) (now : Situation) → 1 ≤ s → IsValid s now
    → is_complete now ≡ false → IsOrder lots → length lots ≡ length now.states
    → (row : Row) × (next : Situation)
    × GoesOn s (length ballots * s) now (votes_under rule s now.keeps ballots (length now.states)) lots row
    next
iteration_exists rule s ballots lots now pos valid going order same =
    goes_on s (length ballots * s) now (votes_under rule s now.keeps ballots (length now.states)) lots valid going order same
    (length-map-range_with_len (λ p. vote_under rule s now.keeps ballots (p + 1)) 0 (length now.states))
    (sum-votes-valid rule s ballots now pos valid)

-- within as many iterations as are left at most some rows lead to the end
rows_within :
    (rule : Rule) (fuel s : ℕ) (ballots : List (List ℕ)) (lots : List ℕ) (now : Situation)
    → steps_left (length ballots * s) now < fuel → 1 ≤ s → IsValid s now → IsOrder lots
    → length lots ≡ length now.states
    → (rows : List Row) × (last : List State) × Rows rule s ballots lots now rows last
rows_within rule zero s ballots lots now enough pos valid order same = absurd (omega arith)
rows_within rule (suc fuel) s ballots lots now enough pos valid order same =
    elim (cases_Bool (is_complete now)) [
      | inl ended ↦ ([], final_states now, (ended, refl))
      | inr going ↦
          let one :
          (row : Row) × (next : Situation)
          × GoesOn s (length ballots * s) now (votes_under rule s now.keeps ballots (length now.states))
          lots row next =
          iteration_exists rule s ballots lots now pos valid going order same in
          let rest : (rows : List Row) × (last : List State) × Rows rule s ballots lots one.1 rows last =
          rows_within rule fuel s ballots lots one.1 (omega (arith, one.2.nearer)) pos one.2.valid order
          (same ∙ sym one.2.same_length) in
          (one.0 ∷ rest.0, rest.1, (going, (one.1, one.2.settles, rest.2)))
    ]

-- a valid situation has rows to its end
pub rows_exist :
    (rule : Rule) (s : ℕ) (ballots : List (List ℕ)) (lots : List ℕ) (now : Situation) → 1 ≤ s → IsValid s now
    → IsOrder lots → length lots ≡ length now.states
    → (rows : List Row) × (last : List State) × Rows rule s ballots lots now rows last
rows_exist rule s ballots lots now pos valid order same =
    rows_within rule (steps_left (length ballots * s) now + 1) s ballots lots now (omega arith) pos valid order same

-- rows that lead to the end are the rows
pub rows-unique :
    (rule : Rule) (s : ℕ) (ballots : List (List ℕ)) (lots : List ℕ) (now : Situation) (rows others : List Row)
    (last end : List State) → 1 ≤ s → IsValid s now → IsOrder lots → length lots ≡ length now.states
    → Rows rule s ballots lots now rows last → Rows rule s ballots lots now others end
    → (others ≡ rows) × (end ≡ last)
rows-unique rule s ballots lots now [] [] last end pos valid order same first second = (refl, second.1 ∙ sym first.1)
rows-unique rule s ballots lots now [] (other ∷ others) last end pos valid order same first second =
    absurd (let off = sym first.0 ∙ second.0 in cc)
rows-unique rule s ballots lots now (row ∷ rows) [] last end pos valid order same first second =
    absurd (let off = sym first.0 ∙ second.0 in cc)
rows-unique rule s ballots lots now (row ∷ rows) (other ∷ others) last end pos valid order same first second =
    let cast : List ℕ = votes_under rule s now.keeps ballots (length now.states) in
    let one : (row : Row) × (next : Situation) × GoesOn s (length ballots * s) now cast lots row next =
    iteration_exists rule s ballots lots now pos valid first.0 order same in
    let here : (row ≡ one.0) × (first.1.0 ≡ one.1) =
    settle-unique s now cast lots row one.0 first.1.0 one.1 order same first.1.1 one.2.settles in
    let there : (other ≡ one.0) × (second.1.0 ≡ one.1) =
    settle-unique s now cast lots other one.0 second.1.0 one.1 order same second.1.1 one.2.settles in
    let onward : Rows rule s ballots lots one.1 rows last =
    subst (λ (next : Situation). Rows rule s ballots lots next rows last) here.1 first.1.2 in
    let onward_too : Rows rule s ballots lots one.1 others end =
    subst (λ (next : Situation). Rows rule s ballots lots next others end) there.1 second.1.2 in
    let rest : (others ≡ rows) × (end ≡ last) =
    rows-unique rule s ballots lots one.1 rows others last end pos one.2.valid order
    (same ∙ sym one.2.same_length) onward onward_too in
    (ap (λ r. r ∷ others) (there.0 ∙ sym here.0) ∙ ap (λ rs. row ∷ rs) rest.0, rest.1)

-- a valid situation has just one end
pub one_end :
    (rule : Rule) (s : ℕ) (ballots : List (List ℕ)) (lots : List ℕ) (now : Situation) → 1 ≤ s → IsValid s now
    → IsOrder lots → length lots ≡ length now.states
    → (rows : List Row) × (last : List State) × AreOnly (Rows rule s ballots lots now) rows last
one_end rule s ballots lots now pos valid order same =
    let some : (rows : List Row) × (last : List State) × Rows rule s ballots lots now rows last =
    rows_exist rule s ballots lots now pos valid order same in (
      some.0,
      some.1,
      record {
        are = some.2;
        only =
            λ others end also. rows-unique rule s ballots lots now some.0 others some.1 end pos valid order
            same some.2 also;
      },
    )

-- an election opens with as many states as candidates
pub length-opening :
    (s units : ℕ) (roll : RollList) → IsRoll roll
    → length (opening s units roll.seats roll.withdrawn).states ≡ length roll.names
length-opening s units roll is = length-map-range_with_len _ 0 (length roll.withdrawn) ∙ is.same_length

-- an election opens in a valid situation
pub valid-opening_of_roll :
    (s units : ℕ) (roll : RollList) → 1 ≤ units → units ≤ MOST_OMEGA → IsRoll roll
    → IsValid s (opening s units roll.seats roll.withdrawn)
valid-opening_of_roll s units roll some few is =
    valid-opening s units roll.seats roll.withdrawn some few is.some_seat is.few_seats
    (omega (arith, is.some_candidate, is.same_length)) (omega (arith, is.few_candidates, is.same_length))

-- an election has just one count
pub one_count :
    (rule : Rule) (places units : ℕ) (ballots : List (List ℕ)) (roll : RollList) (lots : List ℕ)
    → IsElection places units ballots roll lots
    → (rows : List Row) × (last : List State)
    × AreOnly (IsCountUnder rule places units ballots roll lots) rows last
one_count rule places units ballots roll lots is =
    one_end rule (scale places) ballots lots (opening (scale places) units roll.seats roll.withdrawn) (scale_pos places)
    (valid-opening_of_roll (scale places) units roll is.some_omega is.small_omega is.sound_roll)
    is.order_of_lots
    (is.lots_of_all ∙ sym (length-opening (scale places) units roll is.sound_roll))

-- the votes are the same for the ballots in another order
votes-IsPermutation :
    (rule : Rule) (s : ℕ) (keeps : List ℕ) (ballots other : List (List ℕ)) (n : ℕ)
    → IsPermutation ballots other → votes_under rule s keeps ballots n ≡ votes_under rule s keeps other n
votes-IsPermutation rule s keeps ballots other n moved =
    fill_by_all (λ p. vote_under rule s keeps other (p + 1)) (votes_under rule s keeps ballots n) n 0
    (length-map-range_with_len (λ p. vote_under rule s keeps ballots (p + 1)) 0 n)
    (λ p below.
    get_or-map-range_with_len (λ p. vote_under rule s keeps ballots (p + 1)) 0 n p p 0 below (omega arith)
    ∙ sym (sum_by-IsPermutation (λ (ranking : List ℕ). given_under rule s keeps s ranking (p + 1)) ballots other moved))

-- so are the rows
pub rows-IsPermutation :
    (rule : Rule) (s : ℕ) (ballots other : List (List ℕ)) (lots : List ℕ) (now : Situation) (rows : List Row)
    (last : List State) → IsPermutation ballots other → Rows rule s ballots lots now rows last
    → Rows rule s other lots now rows last
rows-IsPermutation rule s ballots other lots now [] last moved leads = leads
rows-IsPermutation rule s ballots other lots now (row ∷ rows) last moved leads =
    let iterates : IteratesTo rule s other lots now row leads.1.0 =
    subst (λ (v : List ℕ). Settle s now v lots row leads.1.0)
    (votes-IsPermutation rule s now.keeps ballots other (length now.states) moved) leads.1.1 in
    (leads.0, (leads.1.0, iterates, rows-IsPermutation rule s ballots other lots leads.1.0 rows last moved leads.1.2))

-- and the whole count
pub count-IsPermutation :
    (rule : Rule) (places units : ℕ) (ballots other : List (List ℕ)) (roll : RollList) (lots : List ℕ)
    (rows : List Row) (last : List State) → IsPermutation ballots other
    → IsCountUnder rule places units ballots roll lots rows last
    ↔ IsCountUnder rule places units other roll lots rows last
count-IsPermutation rule places units ballots other roll lots rows last moved =
    let start : Situation = opening (scale places) units roll.seats roll.withdrawn in (
      rows-IsPermutation rule (scale places) ballots other lots start rows last moved,
      rows-IsPermutation rule (scale places) other ballots lots start rows last
          (IsPermutation-sym ballots other moved),
    )
