-- When a text is refused.
use Rattle.std.specs.Prelude.{⊤}
use Rattle.sheet_reader.specs.declared.sheet_stop.SheetStop.{SheetStop}
use Rattle.sheet_reader.specs.declared.sheet_stop.SheetStop.TheVariants.{Malformed, NoMemory}

-- A text is malformed for this reason alone; memory may be wanted at any time.
abbrev pub Stops : SheetStop → (reason : Type 0) → Type 0
Stops Malformed reason = reason
Stops NoMemory reason = ⊤
