-- Faults at their places.
use Rattle.std.specs.Prelude.{ℕ, ◌+◌, List, Option}
use Rattle.std.specs.List.{filter_map, slice_get}
use Rattle.preflib_text.specs.declared.pref_fault.PrefFault.{PrefFault}
use Rattle.preflib_text.specs.declared.pref_fault.PrefFault.TheVariants as fault
use Rattle.preflib_text.specs.declared.pref_kind.PrefKind.{PrefKind}

-- a line: its number from 1, the place of its first byte, and its bytes without those that end it
pub record Line : Type 0 where
  pub row : ℕ
  pub at : ℕ
  pub bytes : List ℕ

-- a fault at a byte of a line, from 0
abbrev pub in_line : Line → PrefKind → ℕ → PrefFault
in_line line kind i = fault.Line kind (line.at + i) line.row (i + 1)

-- the first of faults, if one is there
abbrev pub first_of : List (Option PrefFault) → Option PrefFault
first_of faults = slice_get (filter_map (λ fault. fault) faults) 0
