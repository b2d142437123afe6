-- What the sentences of an iteration say of lots and of the last seats, for who reads no sentences.
use Rattle.std.specs.Prelude.{ℕ, ◌-◌, ◌&&◌, ◌||◌, nat_eq, not, if◌then◌else◌, Bool, true, false}
use Rattle.std.specs.List.{list_any}
use Rattle.meek_rule.specs.Row.{Row}
use Rattle.meek_rule.specs.Situation.{elected_count}
use Rattle.sheet_words.specs.declared.decision.Decision.{Decision}
use Rattle.sheet_words.specs.declared.decision.Decision.TheVariants.{Choice, Lot}
use Rattle.sheet_words.specs.declared.group.Group.TheVariants.{LeftByLot}
use Rattle.sheet_words.specs.Groups.{members}
use Rattle.sheet_words.specs.Sentences.{decisions_of}

-- The sentence says for how many of those with the quota there are seats, and who of them is elected.
abbrev pub is_choice : Decision → Bool
is_choice Choice = true
is_choice other = false

-- The sentence says whom of the tied the lots chose.
abbrev pub is_lot : Decision → Bool
is_lot (Lot c) = true
is_lot other = false

-- More have the quota than seats are left.
abbrev pub chooses : Row → Bool
chooses row = list_any is_choice (decisions_of row)

-- the seats that are left for those who have the quota, where these are fewer; else 0
abbrev pub last_seats : (seats : ℕ) → Row → ℕ
last_seats seats row = if chooses row then seats - elected_count row.states else 0

-- The lots decide: who of the tied is defeated, or who of those with equal votes is elected.
abbrev pub by_lots : Row → Bool
by_lots row = list_any is_lot (decisions_of row) || (chooses row && not (nat_eq (members row LeftByLot) 0))
