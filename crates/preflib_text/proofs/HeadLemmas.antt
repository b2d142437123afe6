-- The metadata of a text that are read one after another.
use Rattle.std.proofs.Common.{◌≡◌, ◌+◌, true, List, [], ◌∷◌, ◌++◌, length, drop}
use Rattle.std.proofs.Common.{Option, Some, None, refl, ap, sym, ◌∙◌, subst, arith}
use Rattle.std.specs.Option.{option_map, option_or}
use Rattle.std.proofs.lemmas.List.{append_assoc, length_push, map_push}
use Rattle.std.proofs.lemmas.List.Elements.{All-nil, All-push}
use Rattle.preflib_text.specs.declared.pref_fault.PrefFault.{PrefFault}
use Rattle.preflib_text.specs.declared.pref_stop.PrefStop.{PrefStop}
use Rattle.preflib_text.specs.declared.pref_stop.PrefStop.TheVariants.{Fault, NoMemory}
use Rattle.preflib_text.specs.Asked.{Asked}
use Rattle.preflib_text.specs.Ballots.{is_metadata, entries_of}
use Rattle.preflib_text.specs.Faults.{Line, in_line, first_of}
use Rattle.preflib_text.specs.Heading.{front, TakesMetadata, AreBehind, IsHeadTo}
use Rattle.preflib_text.specs.Known.{Known, IsKnown, nothing, with_said, key_seen, line_fault, fault_behind}
use Rattle.preflib_text.specs.Lines.{form_fault}
use Rattle.preflib_text.specs.Metadata.{Entry, entry_of}
use Rattle.preflib_text.specs.Reading.{Coming}
use Rattle.preflib_text.specs.Refusals.{metadata_fault, metadata_faults}
use Rattle.preflib_text.specs.Stops.{IsPrefStop}
use Rattle.preflib_text.proofs.HeadingLemmas.{sound_push, faulty_line, whole_front, one_more, drop_front}
use Rattle.preflib_text.proofs.KnownLemmas.{known_nothing, known_push, same_entry_fault}

no_fault_in :
    {X Y : Type 0} (f : X → Y) (o : Option Y) (p : Option X) → option_or o (option_map f p) ≡ None → p ≡ None
no_fault_in f None None is = refl
no_fault_in f None (Some x) is = absurd (cc is)
no_fault_in f (Some y) p is = absurd (cc is)

module _ (asked : Asked) (old : Coming) where
  pub started : IsHeadTo asked old nothing old
  started = record {
    before = [];
    lines_are = refl;
    metadata = All-nil (λ line. is_metadata line ≡ true);
    sound = refl;
    known_of = known_nothing;
    row_is = omega arith;
    bytes_are = refl;
  }

  module _ (known : Known) (now : Coming) (so_far : IsHeadTo asked old known now) where
    same_line_fault : (line : Line) → line_fault asked known line ≡ metadata_fault asked so_far.before line
    same_line_fault line =
        let entry = entry_of line.bytes in
        ap (λ kind. option_or (form_fault line) (option_map (λ kind. in_line line kind entry.at) kind))
        (same_entry_fault asked (entries_of so_far.before) known so_far.known_of entry)

    -- a line without a fault is one more
    pub went_on : (line : Line) (new : Coming) (next : Known) → TakesMetadata now (Some line) new
        → line_fault asked known line ≡ None
        → next ≡ with_said known (key_seen (entry_of line.bytes)) (entry_of line.bytes).value
        → IsHeadTo asked old next new
    went_on line new next took none is = record {
      before = so_far.before ++ line ∷ [];
      lines_are = so_far.lines_are ∙ ap (λ rest. so_far.before ++ rest) took.0.0
          ∙ sym (append_assoc so_far.before (line ∷ []) new.rest);
      metadata = All-push (λ line. is_metadata line ≡ true) so_far.before line so_far.metadata took.1;
      sound = sound_push asked so_far.before line so_far.sound (sym (same_line_fault line) ∙ none);
      known_of = subst (λ (entries : List Entry). IsKnown entries next)
          (sym (map_push (λ line. entry_of line.bytes) so_far.before line))
          (subst (λ (k : Known). IsKnown (entries_of so_far.before ++ entry_of line.bytes ∷ []) k) (sym is)
          (known_push asked (entries_of so_far.before) known so_far.known_of (entry_of line.bytes)
          (no_fault_in (λ kind. in_line line kind (entry_of line.bytes).at) (form_fault line)
          (fault_behind asked known (key_seen (entry_of line.bytes)) (entry_of line.bytes).value) none)));
      row_is = let more = length_push so_far.before line in omega (arith, took.0.2, so_far.row_is);
      bytes_are = took.0.1 ∙ so_far.bytes_are;
    }

    -- the first fault is the line's
    stopped : (line : Line) (new : Coming) (fault : PrefFault) → TakesMetadata now (Some line) new
        → line_fault asked known line ≡ Some fault
        → first_of (metadata_faults asked (front old.rest)) ≡ Some fault
    stopped line new fault took is =
        ap (λ ls. first_of (metadata_faults asked (front ls)))
        (so_far.lines_are ∙ ap (λ rest. so_far.before ++ rest) took.0.0)
        ∙ ap (λ ls. first_of (metadata_faults asked ls)) (one_more so_far.before new.rest line so_far.metadata took.1)
        ∙ faulty_line asked so_far.before (front new.rest) line fault so_far.sound (sym (same_line_fault line) ∙ is)

    -- so is the reader's stop
    pub went_wrong : (line : Line) (new : Coming) (stop : PrefStop) → TakesMetadata now (Some line) new
        → IsPrefStop (line_fault asked known line) stop → IsPrefStop (first_of (metadata_faults asked (front old.rest))) stop
    went_wrong line new (Fault fault) took is = stopped line new fault took is
    went_wrong line new NoMemory took is = is

    module _ (new : Coming) (took : TakesMetadata now None new) where
      whole : front old.rest ≡ so_far.before
      whole = ap front so_far.lines_are ∙ whole_front so_far.before now.rest so_far.metadata took.1

      pub all_sound : first_of (metadata_faults asked (front old.rest)) ≡ None
      all_sound = ap (λ ls. first_of (metadata_faults asked ls)) whole ∙ so_far.sound

      pub all_known : IsKnown (entries_of (front old.rest)) known
      all_known = subst (λ (ls : List Line). IsKnown (entries_of ls) known) (sym whole) so_far.known_of

      pub all_behind : AreBehind old new
      all_behind = record {
        rest_is = ap (λ c. c.rest) took.0
            ∙ sym (ap (λ ls. drop (length ls) old.rest) whole ∙ ap (drop (length so_far.before)) so_far.lines_are
            ∙ drop_front so_far.before now.rest);
        row_is = ap (λ c. c.row) took.0 ∙ so_far.row_is ∙ ap (λ ls. old.row + length ls) (sym whole);
        bytes_are = ap (λ c. c.bytes) took.0 ∙ so_far.bytes_are;
      }
