-- How the orders of a text are read one after another.
use Rattle.std.specs.Prelude.{◌≡◌, ℕ, ◌+◌, ◌-◌, ◌≤◌, ◌==◌, Bool, if◌then◌else◌, List, [], ◌∷◌, ◌++◌, length, map}
use Rattle.std.specs.Prelude.{sum_by, Option}
use Rattle.std.specs.Option.{option_map}
use Rattle.plain_ballots.specs.Ballots.{ballot_count, plain}
use Rattle.plain_ballots.specs.declared.limits.TheConstants.{MOST_BALLOTS}
use Rattle.ballot_marks.specs.declared.choice.Treat.{Treat}
use Rattle.ballot_marks.specs.declared.treated.Treated.{Treated}
use Rattle.preflib_text.specs.declared.counted.Counted.{Counted}
use Rattle.preflib_text.specs.declared.pref_fault.PrefFault.{PrefFault}
use Rattle.preflib_text.specs.declared.tally.Tally.{Tally}
use Rattle.preflib_text.specs.Ballots.{ballots}
use Rattle.preflib_text.specs.Faults.{Line, first_of}
use Rattle.preflib_text.specs.Items.{order_of, count_of}
use Rattle.preflib_text.specs.Refusals.{whole_fault}
use Rattle.preflib_text.specs.Tallies.{tally}

-- the faults of lines after so many ballots
abbrev pub faults_behind : Treat → (candidates counted : ℕ) → List Line → List (Option PrefFault)
faults_behind equal candidates counted [] = []
faults_behind equal candidates counted (line ∷ lines) =
    whole_fault equal candidates (MOST_BALLOTS - counted, line)
    ∷ faults_behind equal candidates (counted + count_of line) lines

-- the ballots of lines after others
abbrev pub ballots_behind : Treat → List (List ℕ) → List Line → Option (List (List ℕ))
ballots_behind equal before lines = option_map (λ rest. before ++ rest) (ballots equal (map order_of lines))

-- the tally of no orders, of one more, and of some orders and others
abbrev pub no_orders : Tally
no_orders = record { orders = 0; ballots = 0; empty = 0; passed = 0; cut = 0 }

abbrev pub count_if : Bool → ℕ → ℕ
count_if holds count = if holds then count else 0

abbrev pub counting : Tally → (count : ℕ) → Treated → Tally
counting tally count treated = record {
  orders = tally.orders + 1;
  ballots = tally.ballots + count;
  empty = tally.empty + count_if (length treated.ranking == 0) count;
  passed = tally.passed + count_if treated.passed count;
  cut = tally.cut + count_if treated.cut count;
}

abbrev pub both : Tally → Tally → Tally
both one other = record {
  orders = one.orders + other.orders;
  ballots = one.ballots + other.ballots;
  empty = one.empty + other.empty;
  passed = one.passed + other.passed;
  cut = one.cut + other.cut;
}

-- no number of a tally is above that of the ballots
pub record IsWithinBallots (tally : Tally) : Type 0 where
  pub orders : tally.orders ≤ tally.ballots
  pub empty : tally.empty ≤ tally.ballots
  pub passed : tally.passed ≤ tally.ballots
  pub cut : tally.cut ≤ tally.ballots

-- the tally is of these ballots
pub record IsCounted (counted : Counted) : Type 0 where
  pub ballots_are : counted.tally.ballots ≡ ballot_count counted.ballots.lines
  pub within : IsWithinBallots counted.tally
  pub bounded : ballot_count counted.ballots.lines ≤ MOST_BALLOTS

-- of lines so many are read that these ballots were counted, and the others are still to come
pub record IsReadTo (equal : Treat) (lines : List Line) (counted : Counted) (rest : List Line) : Type 0 where
  pub faults :
      first_of (faults_behind equal counted.ballots.candidates 0 lines)
      ≡ first_of (faults_behind equal counted.ballots.candidates (ballot_count counted.ballots.lines) rest)
  pub ballots_are : ballots_behind equal [] lines ≡ ballots_behind equal (plain counted.ballots.lines) rest
  pub total : sum_by count_of lines ≡ ballot_count counted.ballots.lines + sum_by count_of rest
  pub tally_is : tally equal (map order_of lines) ≡ both counted.tally (tally equal (map order_of rest))
