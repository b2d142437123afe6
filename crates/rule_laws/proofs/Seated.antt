-- Members with whom enough votes stay are elected, from the opening of a count to its end.
use Rattle.std.proofs.Common.{◌≡◌, ℕ, ◌+◌, ◌*◌, ◌<◌, ◌≤◌, ◌&&◌, not, Bool, true, false, cond, List, length}
use Rattle.std.proofs.Common.{get_or, All, arith, refl, ap, sym, subst, ◌∙◌}
use Rattle.std.proofs.lemmas.Bool.{eqb-true}
use Rattle.std.proofs.lemmas.List.FromFn.{get_or-map-range_with_len}
use Rattle.fixed_place.specs.Rounding.{scale}
use Rattle.fixed_place.proofs.RoundingLemmas.{scale_pos}
use Rattle.candidate_roll.specs.Roll.{RollList, IsRoll}
use Rattle.candidate_roll.specs.State.{state_at}
use Rattle.candidate_roll.specs.declared.state.State.{State}
use Rattle.candidate_roll.specs.declared.state.State.TheVariants.{Hopeful, Elected as IsNowElected}
use Rattle.candidate_roll.specs.declared.state.State.TheVariants.{Defeated as IsNowDefeated, Withdrawn}
use Rattle.lot_order.specs.Flags.{mark_at}
use Rattle.meek_rule.specs.Situation.{Situation, IsValid, FitsState, is_complete, is_hopeful, is_elected}
use Rattle.meek_rule.specs.Situation.{elected_count, opening}
use Rattle.meek_rule.specs.Row.{Row}
use Rattle.meek_rule.specs.Rule.{Rule}
use Rattle.meek_rule.specs.Weights.{votes_under}
use Rattle.meek_rule.specs.Iteration.{Settle}
use Rattle.meek_count.specs.Laws.{IsElection}
use Rattle.meek_count.specs.Rows.{IsCountUnder}
use Rattle.meek_count.proofs.WholeCount.{length-opening, valid-opening_of_roll}
use Rattle.rule_laws.specs.Seats.{Becomes, AllBecome}
use Rattle.rule_laws.specs.Coalition.{whole_quota}
use Rattle.rule_laws.proofs.Totals.{count_by-total, one_if, total, total-add, total-none, total-same}
use Rattle.rule_laws.proofs.Walk.{IsEnd, walk}
use Rattle.rule_laws.proofs.Decided.{becomes-itself}
use Rattle.rule_laws.proofs.Members.{IsWithin, Stands, VotesStay, elected_of}
use Rattle.rule_laws.proofs.CoalitionEnd.{stands-end}
use Rattle.rule_laws.proofs.CoalitionSteps.{stands-step}

-- THE OPENING

pub opening-at : (s units seats : ℕ) (withdrawn : List Bool) (p : ℕ) → p < length withdrawn
    → state_at (opening s units seats withdrawn).states p ≡ cond (mark_at withdrawn p) Withdrawn Hopeful
opening-at s units seats withdrawn p inside =
    get_or-map-range_with_len (λ q. cond (mark_at withdrawn q) Withdrawn Hopeful) 0 (length withdrawn) p p
    Withdrawn inside (omega arith)

opening_point : (m gone : Bool)
    → one_if (m && is_elected (cond gone Withdrawn Hopeful))
    + one_if (m && is_hopeful (cond gone Withdrawn Hopeful)) ≡ one_if (m && not gone)
opening_point false gone = refl
opening_point true true = refl
opening_point true false = refl

none_elected : (gone : Bool) → one_if (is_elected (cond gone Withdrawn Hopeful)) ≡ 0
none_elected true = refl
none_elected false = refl

pub opening-elected :
    (s units seats : ℕ) (withdrawn : List Bool) → elected_count (opening s units seats withdrawn).states ≡ 0
opening-elected s units seats withdrawn =
    let state : ℕ → State = λ p. cond (mark_at withdrawn p) Withdrawn Hopeful in
    count_by-total is_elected state (length withdrawn) ∙ total-none (length withdrawn) (λ p. one_if (is_elected (state p)))
    (λ p inside. none_elected (mark_at withdrawn p))

opening-stands : (s units : ℕ) (roll : RollList) (members : ℕ → Bool) (k : ℕ) → IsRoll roll
    → k ≤ total (length roll.names) (λ p. one_if (members p && not (mark_at roll.withdrawn p)))
    → Stands (opening s units roll.seats roll.withdrawn).states (length roll.names) members roll.seats k
    (opening s units roll.seats roll.withdrawn)
opening-stands s units roll members k sound running =
    let n : ℕ = length roll.names in
    let start : Situation = opening s units roll.seats roll.withdrawn in
    let state : ℕ → State = λ p. cond (mark_at roll.withdrawn p) Withdrawn Hopeful in
    let at : (p : ℕ) → p < n → state_at start.states p ≡ state p =
    λ p inside. opening-at s units roll.seats roll.withdrawn p (omega (arith, sound.same_length)) in
    let both =
    total-add n (λ p. one_if (members p && is_elected (state_at start.states p)))
    (λ p. one_if (members p && is_hopeful (state_at start.states p))) in
    let each : total n (λ p. one_if (members p && is_elected (state_at start.states p)) + one_if
    (members p && is_hopeful (state_at start.states p)))
    ≡ total n (λ p. one_if (members p && not (mark_at roll.withdrawn p))) =
    total-same n (λ p. one_if (members p && is_elected (state_at start.states p))
    + one_if (members p && is_hopeful (state_at start.states p)))
    (λ p. one_if (members p && not (mark_at roll.withdrawn p)))
    (λ p inside. ap (λ (x : State). one_if (members p && is_elected x) + one_if (members p && is_hopeful x))
    (at p inside) ∙ opening_point (members p)
    (mark_at roll.withdrawn p)) in
    record {
      as_long = length-opening s units roll sound;
      as_many = refl;
      from_start = λ p inside. becomes-itself (state_at start.states p);
      enough = omega (arith, both, each, running);
      at_full = λ full.
          absurd
          (let taken : elected_count start.states ≡ roll.seats = eqb-true _ _ full in
          omega (arith, sound.some_seat, opening-elected s units roll.seats roll.withdrawn));
    }

-- THE WHOLE COUNT

-- Members with whom enough votes stay are elected, so many of them.
pub seated :
    (rule : Rule) (places units : ℕ) (ballots : List (List ℕ)) (roll : RollList) (lots : List ℕ)
    (rows : List Row) (last : List State)
    (members : ℕ → Bool) (k h over : ℕ) (fine : Row → Type 0)
    → IsElection places units ballots roll lots → IsCountUnder rule places units ballots roll lots rows last → All fine rows
    → VotesStay rule (scale places) ballots (opening (scale places) units roll.seats roll.withdrawn).states
    (length roll.names) members h
    → ((now : Situation) (row : Row) (next : Situation) → IsValid (scale places) now → is_complete now ≡ false
    → length now.states ≡ length
    roll.names → now.seats ≡ roll.seats
    → Settle (scale places) now (votes_under rule (scale places) now.keeps ballots (length roll.names)) lots
    row next → fine row
    → IsWithin (length roll.names) members k over now.states
    (votes_under rule (scale places) now.keeps ballots (length roll.names)) row.step row)
    → k ≤ total (length roll.names) (λ p. one_if (members p && not (mark_at roll.withdrawn p)))
    → k * whole_quota (scale places) roll.seats (length ballots) + over ≤ h * scale places
    → k ≤ elected_of (length roll.names) members last
seated rule places units ballots roll lots rows last members k h over fine is counted all stay within running enough =
    let s : ℕ = scale places in
    let n : ℕ = length roll.names in
    let start : Situation = opening s units roll.seats roll.withdrawn in
    let holds : Situation → Type 0 = Stands start.states n members roll.seats k in
    let long : length start.states ≡ n = length-opening s units roll is.sound_roll in
    let ends : (end : Situation) × IsEnd s holds last end =
    walk rule s ballots lots holds fine is.order_of_lots
    (λ now row next valid going same iterates good stands.
    let settles : Settle s now (votes_under rule s now.keeps ballots n) lots row next =
    subst (λ (m : ℕ). Settle s now (votes_under rule s now.keeps ballots m) lots row next) stands.as_long iterates in
    stands-step rule s ballots lots start.states n members roll.seats k h over (scale_pos places)
    is.order_of_lots long stay enough now row next valid
    going same iterates
    (within now row next valid going stands.as_long stands.as_many settles good) stands)
    start rows last
    (valid-opening_of_roll s units roll is.some_omega is.small_omega is.sound_roll)
    (is.lots_of_all ∙ sym long)
    (opening-stands s units roll members k is.sound_roll running)
    counted all in
    subst (λ (x : List State). k ≤ elected_of n members x) (sym ends.1.last_is)
    (stands-end start.states n members roll.seats k ends.0 ends.1.holds_still ends.1.complete)

-- WHO WAS WITHDRAWN

pub hopeful_keep : (s : ℕ) (state : State) (keep : ℕ) → is_hopeful state ≡ true → FitsState s state keep → keep ≡ s
hopeful_keep s Hopeful keep is fits = fits
hopeful_keep s IsNowElected keep is fits = absurd (cc)
hopeful_keep s IsNowDefeated keep is fits = absurd (cc)
hopeful_keep s Withdrawn keep is fits = absurd (cc)

gone_keep :
    (s : ℕ) (gone : Bool) (state : State) (keep : ℕ) → gone ≡ true
    → Becomes (cond gone Withdrawn Hopeful) state → FitsState s state keep → keep ≡ 0
gone_keep s false state keep gone becomes fits = absurd (cc)
gone_keep s true state keep gone becomes fits = subst (λ (x : State). FitsState s x keep) becomes fits

runs : (gone : Bool) (state : State) → is_hopeful state ≡ true → Becomes (cond gone Withdrawn Hopeful) state → gone ≡ false
runs false state is becomes = refl
runs true state is becomes = absurd (let off = sym is ∙ ap is_hopeful becomes in cc)

-- who was withdrawn keeps nothing, and who is hopeful was not withdrawn
pub withdrawn_keep :
    (s units : ℕ) (roll : RollList) (now : Situation) (p : ℕ) → IsRoll roll → IsValid s now
    → length now.states ≡ length roll.names
    → AllBecome (opening s units roll.seats roll.withdrawn).states now.states → p < length roll.names
    → mark_at roll.withdrawn p ≡ true
    → get_or now.keeps p 0 ≡ 0
withdrawn_keep s units roll now p sound valid long from inside gone =
    gone_keep s (mark_at roll.withdrawn p) (state_at now.states p) (get_or now.keeps p 0) gone
    (subst (λ (x : State). Becomes x (state_at now.states p))
    (opening-at s units roll.seats roll.withdrawn p (omega (arith, sound.same_length)))
    (from p (omega (arith, length-opening s units roll sound))))
    (valid.fitting p (omega arith))

pub hopeful_runs : (s units : ℕ) (roll : RollList) (now : Situation) (p : ℕ) → IsRoll roll
    → AllBecome (opening s units roll.seats roll.withdrawn).states now.states → p < length roll.names
    → is_hopeful (state_at now.states p) ≡ true
    → mark_at roll.withdrawn p ≡ false
hopeful_runs s units roll now p sound from inside is =
    runs (mark_at roll.withdrawn p) (state_at now.states p) is
    (subst (λ (x : State). Becomes x (state_at now.states p))
    (opening-at s units roll.seats roll.withdrawn p (omega (arith, sound.same_length)))
    (from p (omega (arith, length-opening s units roll sound))))
