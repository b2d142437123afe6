-- What a count comes to.
use Rattle.std.proofs.Common.{ℕ, List, [], refl, inl, inr}
use Rattle.input_text.specs.declared.input_fault.InputFault.{InputFault}
use Rattle.tool_edge.specs.declared.end.End.{End}
use Rattle.tool_edge.specs.declared.end.End.TheVariants.{Done, BadInput}
use Rattle.tool_edge.specs.Streams.{Writing}
use Rattle.tool_edge.specs.Finishing.{FinishesOwed}
use Rattle.tool_edge.specs.Tool.{IsOwedFor, no_history}
use Rattle.tool_edge.specs.Tools.{over_contests}
use Rattle.ballot_count.specs.Owed.{OwesSheet}
use Rattle.meek_cli.specs.declared.work.Work.TheVariants.{Count}
use Rattle.meek_cli.specs.Owed.{meek}
use Rattle.meek_cli.specs.Run.{FinishesCount}

-- What a count owes is what the program owes for it, with no call answered.
same_owed :
    (lots input : List ℕ) (due : End InputFault) (bytes : List ℕ)
    → IsOwedFor (over_contests OwesSheet) lots input no_history due bytes → IsOwedFor meek (Count lots) input [] due bytes
same_owed lots input Done bytes (short, owes) = (short, (refl, owes))
same_owed lots input (BadInput fault) bytes (refused, none, line) = (refused, refl, line)
same_owed lots input due bytes owed = absurd owed

pub in_meek :
    (lots input : List ℕ) (end : End InputFault) (sink : Writing)
    → FinishesOwed (IsOwedFor (over_contests OwesSheet) lots input no_history) end sink → FinishesCount lots input end sink
in_meek lots input end sink (inl nothing) = inl nothing
in_meek lots input end sink (inr (due, bytes, owed, finishes)) =
    inr (due, bytes, same_owed lots input due bytes owed, finishes)
