-- What is owed for a sheet, and what is refused.
use Rattle.std.proofs.Common.{ℕ, ◌≤◌, List, length, refl, sym, subst, inl, inr}
use Rattle.sheet_reader.specs.Form.{HasForm}
use Rattle.sheet_reader.specs.Values.{SheetList}
use Rattle.tool_edge.specs.declared.end.End.{End}
use Rattle.tool_edge.specs.declared.end.End.TheVariants.{BadInput}
use Rattle.tool_edge.specs.Streams.{Writing}
use Rattle.tool_edge.specs.Finishing.{Finishes, FinishesOwed}
use Rattle.tool_edge.specs.Tool.{IsOwedFor, IsSound, no_history}
use Rattle.sheet_input.specs.declared.sheet_limit.TheConstants.{SHEET_LIMIT}
use Rattle.sheet_input.specs.declared.sheet_fault.SheetFault.{SheetFault}
use Rattle.sheet_input.specs.declared.sheet_fault.SheetFault.TheVariants.{Malformed}
use Rattle.sheet_input.specs.Sheets.{IsMalformed, malformed_line}
use Rattle.sheet_input.proofs.Refused.{not_refused, refused_once}
use Rattle.count_promise.specs.Owed.{IsPromised, promises}

pub promise_owed :
    (input : List ℕ) (v : SheetList) (end : End SheetFault) (sink : Writing) → length input ≤ SHEET_LIMIT
    → HasForm 9 input v
    → FinishesOwed (IsPromised v) end sink → FinishesOwed (IsOwedFor promises (tt {0}) input no_history) end sink
promise_owed input v end sink short form (inl nothing) = inl nothing
promise_owed input v end sink short form (inr (due, bytes, promised, finishes)) =
    inr (
      due,
      bytes,
      subst (λ (d : End SheetFault). IsOwedFor promises (tt {0}) input no_history d bytes) (sym promised.0)
          (short, (v, form, promised.1)),
      finishes,
    )

pub malformed_owed :
    (input : List ℕ) (end : End SheetFault) (sink : Writing) → length input ≤ SHEET_LIMIT → IsMalformed input
    → Finishes (BadInput Malformed) malformed_line end sink
    → FinishesOwed (IsOwedFor promises (tt {0}) input no_history) end sink
malformed_owed input end sink short none finishes =
    inr (BadInput Malformed, malformed_line, (inr (short, none), refl, refl), finishes)

pub sound : IsSound promises
sound = record {
  one = λ words asked other taken again. refl;
  either = λ asked. not_refused;
  once = λ asked. refused_once;
  owed = λ asked input history bytes owes. (owes.0, owes.1);
}
