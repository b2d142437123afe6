-- The text is owed for the file.
use Rattle.std.proofs.Common.{ℕ, ◌≤◌, List, length, refl, sym, subst, inl, inr}
use Rattle.input_text.specs.declared.input_fault.InputFault.{InputFault}
use Rattle.blt_reader.specs.Poll.{Poll}
use Rattle.tool_edge.specs.Contest.{SaysPoll}
use Rattle.tool_edge.specs.declared.end.End.{End}
use Rattle.sheet_input.specs.declared.sheet_limit.TheConstants.{SHEET_LIMIT}
use Rattle.tool_edge.specs.Finishing.{FinishesOwed}
use Rattle.tool_edge.specs.Streams.{Writing}
use Rattle.tool_edge.specs.Tool.{IsOwedFor, IsSound, no_history}
use Rattle.tool_edge.specs.Tools.{FilesAreNotRefused, FilesAreRefusedOnce}
use Rattle.ballot_look.specs.Owed.{IsLookOf, look_tool}

pub sound : FilesAreNotRefused → FilesAreRefusedOnce → IsSound look_tool
sound either once = record {
  one = λ words asked other taken again. refl;
  either = λ asked. either;
  once = λ asked. once;
  owed = λ asked input history bytes owes. (owes.0, owes.1);
}

-- The text of this election is owed for the file that says it.
pub look_owed :
    (input : List ℕ) (poll : Poll) (end : End InputFault) (sink : Writing) → length input ≤ SHEET_LIMIT → SaysPoll input poll
    → FinishesOwed (IsLookOf input poll) end sink → FinishesOwed (IsOwedFor look_tool (tt {0}) input no_history) end sink
look_owed input poll end sink short says (inl nothing) = inl nothing
look_owed input poll end sink short says (inr (due, bytes, look, finishes)) =
    inr (
      due,
      bytes,
      subst (λ (d : End InputFault). IsOwedFor look_tool (tt {0}) input no_history d bytes) (sym look.0)
          (short, (poll, says, look.1)),
      finishes,
    )
