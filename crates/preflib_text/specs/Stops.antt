-- Why a text is not read.
use Rattle.std.specs.Prelude.{◌≡◌, Option, Some, ⊤}
use Rattle.preflib_text.specs.declared.pref_fault.PrefFault.{PrefFault}
use Rattle.preflib_text.specs.declared.pref_stop.PrefStop.{PrefStop}
use Rattle.preflib_text.specs.declared.pref_stop.PrefStop.TheVariants.{Fault, NoMemory}

-- it has this first fault; memory may be wanted at any
abbrev pub IsPrefStop : Option PrefFault → PrefStop → Type 0
IsPrefStop fault (Fault found) = fault ≡ Some found
IsPrefStop fault NoMemory = ⊤
