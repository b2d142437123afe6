-- What is owed for an input, and what is refused.
use Rattle.std.proofs.Common.{◌≡◌, ◌∙◌, refl, sym, ap, subst, ℕ, ◌≤◌, List, length, inl, inr}
use Rattle.std.specs.Prelude.{Option, Some, None, Result, Ok, Err, IsPermutation}
use Rattle.std.specs.Option.{option_and_then, option_map}
use Rattle.preflib_text.specs.declared.pref_fault.PrefFault.{PrefFault}
use Rattle.candidate_roll.specs.Roll.{RollList}
use Rattle.piece_text.specs.Writing.{Writes}
use Rattle.blt_writer.specs.Laws.{EveryBagHasAText, OneBagHasOneText}
use Rattle.blt_writer.specs.Text.{IsBltText}
use Rattle.import_words.specs.Laws.{AskOneThing}
use Rattle.import_words.specs.declared.asked.Asked.{Asked}
use Rattle.tool_edge.specs.declared.end.End.{End}
use Rattle.tool_edge.specs.declared.end.End.TheVariants.{Done, BadInput}
use Rattle.tool_edge.specs.declared.opening.TheConstants.{FILE_LIMIT}
use Rattle.tool_edge.specs.Streams.{Writing, writing}
use Rattle.tool_edge.specs.Finishing.{FinishesOwed, Wrote}
use Rattle.tool_edge.specs.Tool.{IsOwedFor, IsSound, no_history}
use Rattle.blt_import.specs.declared.import_fault.ImportFault.{ImportFault}
use Rattle.blt_import.specs.declared.import_fault.ImportFault.TheVariants as fault
use Rattle.blt_import.specs.declared.read.Read.{Read}
use Rattle.blt_import.specs.declared.read_stop.ReadStop.{ReadStop}
use Rattle.blt_import.specs.declared.read_stop.ReadStop.TheVariants as stop
use Rattle.blt_import.specs.Faults.{fault_of, refusal_line}
use Rattle.blt_import.specs.Forms.{Form, Table, Preflib, form_of}
use Rattle.blt_import.specs.Owed.{HasNoFault, IsDoneWith, IsReadStop, Refuses, Says}
use Rattle.blt_import.specs.Owed.{fault_in, import_tool}

-- what was written, as a tool's end takes it
pub wrote_text :
    {S T E : Type 0} (w : S → Option (List ℕ)) (f : S → ℕ) (a b : S) (text : List ℕ) (r : Result T E) → Writes w f a b text r
    → Wrote text r (writing w f a b)
wrote_text w f a b text (Ok done) wrote = (wrote.calm, wrote.whole)
wrote_text w f a b text (Err stop) wrote = (wrote.rose, wrote.part)

-- The text of some ballots is that of the same ballots in another order.
pub text_moved :
    EveryBagHasAText → OneBagHasOneText → (one other : List (List ℕ)) (roll : RollList) (text : List ℕ)
    → IsPermutation one other → IsBltText one roll text → IsBltText other roll text
text_moved every once one other roll text moved is =
    let some = every roll other in
    subst (λ (t : List ℕ). IsBltText other roll t) (sym (once roll one other text some.0 moved is some.1)) some.1

-- ---- a whole input

module _ (asked : Asked) (input : List ℕ) (end : End ImportFault) (sink : Writing) (short : length input ≤ FILE_LIMIT) where
  abbrev Ended : Type 0
  Ended = FinishesOwed (IsOwedFor import_tool asked input no_history) end sink

  -- the text of an input without a fault is owed
  pub read_owed :
      (read : Read) → HasNoFault (form_of asked) input → Says (form_of asked) input read
      → FinishesOwed (IsDoneWith asked.output asked.roll read) end sink
      → Ended
  read_owed read sound says (inl nothing) = inl nothing
  read_owed read sound says (inr (due, bytes, (done, text, back), finishes)) =
      let owes : IsOwedFor import_tool asked input no_history Done bytes = (
        short,
        record { sound = sound; read = read; says = says; text = text; read_back = back },
      ) in
      let owed = subst (λ (e : End ImportFault). IsOwedFor import_tool asked input no_history e bytes) (sym done) owes in
      inr (due, bytes, owed, finishes)

  -- a fault is owed its line
  pub refusal_owed : (found : ReadStop) → IsReadStop (fault_in (form_of asked) input) found → Refuses found end sink → Ended
  refusal_owed (stop.Fault fault) first finishes =
      inr (BadInput fault, refusal_line fault, (inr (short, first), refl, refl), finishes)
  refusal_owed stop.NoMemory first nothing = inl nothing

-- ---- the whole run

one_some : {X : Type 0} (x y : X) → Some x ≡ Some y → x ≡ y
one_some x y same = cc

no_fault : (fault : ImportFault) → None ≡ Some fault → ⊥
no_fault fault same = cc

not_both : (form : Form) (input : List ℕ) (fault : ImportFault) → HasNoFault form input → fault_in form input ≡ Some fault → ⊥
not_both (Table form) input why none some = no_fault why (sym (ap (option_and_then fault_of) none) ∙ some)
not_both (Preflib form) input why none some =
    no_fault why (sym (ap (option_map (λ (w : PrefFault). fault.Preflib w)) none) ∙ some)

pub sound : AskOneThing → IsSound import_tool
sound one = record {
  one = λ words asked other taken again. one words asked other taken again;
  either = λ asked input why. not_both (form_of asked) input why;
  once = λ asked input why other first also. one_some why other (sym first ∙ also);
  owed = λ asked input history bytes owes. owes.sound;
}
