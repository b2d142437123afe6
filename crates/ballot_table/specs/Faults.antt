-- Faults of a record at their places.
use Rattle.std.specs.Prelude.{ℕ, List, Option, Some, None, Result, Ok, Err}
use Rattle.std.specs.List.{filter_map, enumerate_from, slice_get}
use Rattle.ballot_table.specs.declared.fault.Fault.{Fault}
use Rattle.ballot_table.specs.declared.table_kind.TableKind.{TableKind}

abbrev pub fault_of : {X : Type 0} → ℕ × Result X TableKind → Option Fault
fault_of (place, Ok x) = None
fault_of (place, Err kind) = Some (record { kind = kind; place = place })

-- the first fault of judged fields, if one is there
abbrev pub first_fault : {X : Type 0} → List (Result X TableKind) → Option Fault
first_fault fields = slice_get (filter_map fault_of (enumerate_from 1 fields)) 0

abbrev pub sound_one : {X : Type 0} → Result X TableKind → Option X
sound_one (Ok x) = Some x
sound_one (Err kind) = None

-- what the fields without a fault are
abbrev pub sound : {X : Type 0} → List (Result X TableKind) → List X
sound fields = filter_map sound_one fields
