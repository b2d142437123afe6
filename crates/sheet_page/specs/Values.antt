-- The parts of a sheet's values.
use Rattle.std.specs.Prelude.{ℕ, Bool, false, List, [], codes, nat_eq, slice_index_or}
use Rattle.std.specs.List.{range_with_len}
use Rattle.meek_rule.specs.declared.step.Step.{Step}
use Rattle.meek_rule.specs.declared.step.Step.TheVariants.{Elected, Iterate, Defeat}
use Rattle.sheet_reader.specs.Values.{SheetList}

-- the places from 0 of a list of this length
abbrev pub all_places : ℕ → List ℕ
all_places n = range_with_len 0 n

abbrev pub name_at : SheetList → (p : ℕ) → List ℕ
name_at v p = slice_index_or v.names p []

-- what a step is called
abbrev pub step_word : Step → List ℕ
step_word Elected = codes "elected"
step_word Iterate = codes "iterate"
step_word (Defeat c) = codes "defeat"

-- whether a step defeats the candidate of this number
abbrev pub defeats : Step → (c : ℕ) → Bool
defeats Elected c = false
defeats Iterate c = false
defeats (Defeat d) c = nat_eq d c
