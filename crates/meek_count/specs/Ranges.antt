-- What the numbers of an iteration stay within.
use Rattle.std.specs.Prelude.{◌≡◌, ℕ, ◌-◌, ◌^◌, ◌<◌, ◌≤◌, Bool, true, false, List, replicate, All}
use Rattle.fixed_place.specs.Rounding.{scale, most}
use Rattle.lot_order.specs.Flags.{mark_at}
use Rattle.meek_rule.specs.Row.{Row, HasRoomFor}
use Rattle.meek_rule.specs.declared.step.Step.{Step}
use Rattle.meek_rule.specs.declared.step.Step.TheVariants.{Elected, Iterate, Defeat}

-- A candidate that a step defeats is among the tied; another step has no tied.
abbrev pub HasTiedFor : (n : ℕ) → Step → (tied : List Bool) → Type 0
HasTiedFor n Elected tied = tied ≡ replicate n false
HasTiedFor n Iterate tied = tied ≡ replicate n false
HasTiedFor n (Defeat c) tied = (1 ≤ c) × (mark_at tied (c - 1) ≡ true)

-- An iteration of n candidates whose numbers fit their types, with keep values of at most one vote, or of a whole price,
-- and amounts of at most a thousand million votes.
pub record IsInRange (places n : ℕ) (row : Row) : Type 0 where
  pub of_all : HasRoomFor n row
  pub round : row.round < 2 ^ 32
  pub iteration : row.iteration < 2 ^ 64
  pub keeps : All (λ keep. keep ≤ scale places) row.keeps
  pub votes : All (λ vote. vote ≤ most places) row.votes
  pub total : row.total ≤ most places
  pub quota : row.quota ≤ most places
  pub surplus : row.surplus ≤ most places
  pub tied : HasTiedFor n row.step row.tied
