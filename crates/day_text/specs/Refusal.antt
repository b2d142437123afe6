-- When a text is refused.
use Rattle.std.specs.Prelude.{⊤}
use Rattle.day_text.specs.declared.day_stop.DayStop.{DayStop}
use Rattle.day_text.specs.declared.day_stop.DayStop.TheVariants.{Malformed, NoMemory}

-- A text is malformed for this reason alone; memory may be wanted at any time.
abbrev pub Stops : DayStop → (reason : Type 0) → Type 0
Stops Malformed reason = reason
Stops NoMemory reason = ⊤
