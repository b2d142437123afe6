-- What holds of the sentences of every sheet.
use Rattle.std.specs.Prelude.{◌+◌, ◌≡◌, ℕ, ◌-◌, ◌<◌, nat_eq, Bool, true, false, List, ◌++◌, length, count_by}
use Rattle.candidate_roll.specs.Roll.{RollList}
use Rattle.candidate_roll.specs.State.{state_at}
use Rattle.candidate_roll.specs.declared.state.State.{State}
use Rattle.candidate_roll.specs.declared.state.State.TheVariants.{Hopeful, Elected as IsElected, Defeated, Withdrawn}
use Rattle.lot_order.specs.Flags.{mark_at}
use Rattle.meek_count.specs.Laws.{IsElection}
use Rattle.meek_count.specs.Rows.{IsCountUnder}
use Rattle.meek_rule.specs.Row.{Row}
use Rattle.meek_rule.specs.Rule.{Rule}
use Rattle.meek_rule.specs.declared.step.Step.TheVariants.{Defeat}
use Rattle.sheet_reader.specs.Laws.{values_of}
use Rattle.sheet_reader.specs.Values.{SheetList}
use Rattle.sheet_words.specs.declared.decision.Decision.{Decision}
use Rattle.sheet_words.specs.declared.decision.Decision.TheVariants.{Election, Arrival, Choice, Cap, Defeat as Defeats, Tie, Lot}
use Rattle.sheet_words.specs.Phrases.{called}
use Rattle.sheet_words.specs.Sentences.{decisions_of, late_at, sentence, strikes}

-- A sentence names the candidate at a place: its name and its number stand in it.
abbrev pub Names : SheetList → (p : ℕ) → (texts : List (List ℕ)) → Type 0
Names v p texts = (before : List (List ℕ)) × (behind : List (List ℕ)) × (texts ≡ before ++ (called v p ++ behind))

-- whether a sentence says who is elected
abbrev pub says_elected : Decision → Bool
says_elected Election = true
says_elected Arrival = false
says_elected Choice = true
says_elected Cap = false
says_elected (Defeats c) = false
says_elected Tie = false
says_elected (Lot c) = false

-- whether a sentence says that the candidate of a number is defeated
abbrev pub says_defeated : (c : ℕ) → Decision → Bool
says_defeated c Election = false
says_defeated c Arrival = false
says_defeated c Choice = false
says_defeated c Cap = false
says_defeated c (Defeats d) = nat_eq d c
says_defeated c Tie = false
says_defeated c (Lot d) = nat_eq d c

-- Just one sentence of an iteration says this, and every sentence that says it names the candidate at a place.
pub record HasOneSentence (places : ℕ) (says : Decision → Bool) (v : SheetList) (row : Row) (p : ℕ) : Type 0 where
  pub one : count_by says (decisions_of row) ≡ 1
  pub named : (d : Decision) → says d ≡ true → Names v p (sentence places v row d)

-- Whoever is elected in an iteration is in its one sentence on who is elected.
abbrev pub WinnersHaveOneSentence : Type 0
WinnersHaveOneSentence =
    (places : ℕ) (v : SheetList) (row : Row) (p : ℕ)
    → p < length row.states → mark_at row.elected p ≡ true → HasOneSentence places says_elected v row p

-- Whoever is defeated in an iteration is in its one sentence on who is defeated.
abbrev pub LosersHaveOneSentence : Type 0
LosersHaveOneSentence =
    (places : ℕ) (v : SheetList) (row : Row) (c : ℕ) → row.step ≡ Defeat c → HasOneSentence places (says_defeated c) v row (c - 1)

-- ---- of the sheet of a count

-- how many iterations elect the candidate at a place, and how many defeat it
abbrev pub times_elected : List Row → (p : ℕ) → ℕ
times_elected rows p = count_by (λ row. mark_at row.elected p) rows

abbrev pub times_defeated : List Row → (p : ℕ) → ℕ
times_defeated rows p = count_by (λ row. strikes row.step p) rows

-- Who ends elected is elected by one sentence, of an iteration or of the end, and defeated by none; who ends defeated
-- is so the other way round. No sentence but that of the result names the withdrawn, and nobody ends hopeful.
abbrev pub HasOneFate : SheetList → (p : ℕ) → State → Type 0
HasOneFate v p Hopeful = ⊥
HasOneFate v p IsElected = (times_elected v.rows p + length (late_at v p) ≡ 1) × (times_defeated v.rows p ≡ 0)
HasOneFate v p Defeated = (times_elected v.rows p ≡ 0) × (times_defeated v.rows p + length (late_at v p) ≡ 1)
HasOneFate v p Withdrawn = (times_elected v.rows p ≡ 0) × (times_defeated v.rows p ≡ 0) × (length (late_at v p) ≡ 0)

-- In the sheet of a count each candidate's last state is said by just one sentence before the result.
abbrev pub EachHasOneFate : Type 0
EachHasOneFate =
    (rule : Rule) (places omega : ℕ) (ballots : List (List ℕ)) (roll : RollList) (lots : List ℕ) (rows : List Row) (last : List State) (p : ℕ)
    → IsElection places omega ballots roll lots → IsCountUnder rule places omega ballots roll lots rows last
    → p < length roll.names
    → HasOneFate (values_of roll (length ballots) rows last) p (state_at last p)
