-- Whole runs of a tool, from its parts.
use Rattle.std.proofs.Common.{◌≡◌, ℕ, List, refl, sym, ◌∙◌, ap, subst}
use Rattle.std.proofs.Common.{inl, inr}
use Rattle.std.specs.Prelude.{Option, Some, None, Result, Ok, Err}
use Rattle.byte_edge.specs.Bytes.{IsLongerThan}
use Rattle.input_text.specs.declared.input_fault.InputFault.{InputFault}
use Rattle.input_text.specs.declared.input_stop.InputStop.{InputStop}
use Rattle.input_text.specs.declared.input_stop.InputStop.TheVariants.{Fault, NoMemory as NoInputRead}
use Rattle.meek_words.specs.Numerals.{Word}
use Rattle.meek_words.specs.declared.words_stop.WordsStop.{WordsStop}
use Rattle.meek_words.specs.declared.words_stop.WordsStop.TheVariants.{BadWords as BadWordsStop, NoMemory as NoWordsRead}
use Rattle.tool_edge.specs.declared.end.End.{End}
use Rattle.tool_edge.specs.declared.end.End.TheVariants.{Done, SourceFault, BadWords, BadInput, NoMemory}
use Rattle.tool_edge.specs.Streams.{Reading, Writing, writing, NothingRead}
use Rattle.tool_edge.specs.Refusals.{Refusals, words_line, file_refusals}
use Rattle.tool_edge.specs.Finishing.{FinishesOwed, RefusesWords, RefusesInput}
use Rattle.tool_edge.specs.Words.{IsAsked}
use Rattle.tool_edge.specs.Opening.{MayBeInput, IsWithin, IsTooLong, ReadsAll, StopsReading, StopsOpening}
use Rattle.tool_edge.specs.Tool.{Tool, IsOwedFor, IsOwed, IsAnswered}
use Rattle.tool_edge.specs.Tool.{IsReadFor, IsRun}
use Rattle.tool_edge.specs.Tool.{Works, IsSound}
use Rattle.tool_edge.proofs.Inputs.{is_input, no_read_failed, some_longer, not_both, refusal_is_not_done}
use Rattle.tool_edge.proofs.Answering.{owed_for_words, answered, run_of}

module _ {A H F : Type 0} (tool : Tool A H F) where
  -- ---- a run that is over before the work

  -- Words that are not taken are answered tool by their line.
  pub refused_words :
      (words : List Word) (stop : WordsStop) (end : End F) (source : Reading) (sink : Writing) → IsSound tool
      → IsAsked tool.Takes words (Err stop) → NothingRead source → RefusesWords stop end sink
      → IsRun tool words source sink end tool.no_calls
  refused_words words BadWordsStop end source sink sound none unread finishes =
      run_of tool words source sink end tool.no_calls sound
      (answered tool words source sink BadWords tool.no_calls words_line end unread.0 (none, refl, refl) finishes)
      (record { untouched = λ silent. unread; whole = λ asked taken. absurd (none asked taken) })
  refused_words words NoWordsRead end source sink sound none unread (same, nothing) =
      subst (λ (e : End F). IsRun tool words source sink e tool.no_calls) (sym same)
      (run_of tool words source sink NoMemory tool.no_calls sound (unread.0, refl, nothing)
      (record { untouched = λ silent. unread; whole = λ asked taken reads done. absurd (cc) }))

  -- an input of which more is left than may be read
  long_owed :
      (words : List Word) (asked : A) (most : ℕ) (left : Option (List ℕ)) → tool.Takes words asked
      → tool.limit asked ≡ Some most
      → IsLongerThan most left
      → IsOwed tool words left tool.no_calls (BadInput (tool.refusals.too_long most))
      (tool.refusals.line (tool.refusals.too_long most))
  long_owed words asked most left taken same long =
      let some = some_longer most left long in
      let is = subst (λ (l : Option ℕ). MayBeInput l left some.0) (sym same) some.1 in
      let fault = tool.refusals.too_long most in
      let is_long = subst (λ (l : Option ℕ). IsTooLong tool.refusals l some.0 fault) (sym same) (some.2, refl) in
      (asked, taken, (some.0, is, (inl is_long, refl, refl)))

  -- An input that was not read to its end is no more than that.
  read_in_part :
      (words : List Word) (asked : A) (most : ℕ) (end : End F) (source : Reading) → tool.Takes words asked
      → tool.limit asked ≡ Some most → (end ≡ Done → ⊥) → IsReadFor tool words end source
  read_in_part words asked most end source taken same not = record {
    untouched = λ silent. absurd (silent asked taken (most, same));
    whole = λ other again reads done. absurd (not done);
  }

  stopped_reading :
      (words : List Word) (asked : A) (limit : Option ℕ) (end : End F) (source : Reading) (sink : Writing) → IsSound tool
      → tool.Takes words asked → tool.limit asked ≡ limit → StopsReading tool.refusals limit end source sink
      → IsRun tool words source sink end tool.no_calls
  stopped_reading words asked None end source sink sound taken is stops = absurd stops
  stopped_reading words asked (Some most) end source sink sound taken is (inl (same, rose, nothing)) =
      subst (λ (e : End F). IsRun tool words source sink e tool.no_calls) (sym same)
      (run_of tool words source sink SourceFault tool.no_calls sound ((asked, taken, (most, is)), refl, rose, nothing)
      (read_in_part words asked most SourceFault source taken is (λ done. cc)))
  stopped_reading words asked (Some most) end source sink sound taken is (inr (inl (same, calm, nothing))) =
      subst (λ (e : End F). IsRun tool words source sink e tool.no_calls) (sym same)
      (run_of tool words source sink NoMemory tool.no_calls sound (calm, refl, nothing)
      (read_in_part words asked most NoMemory source taken is (λ done. cc)))
  stopped_reading words asked (Some most) end source sink sound taken is (inr (inr (calm, long, finishes))) =
      let fault = tool.refusals.too_long most in
      run_of tool words source sink end tool.no_calls sound
      (answered tool words source sink (BadInput fault) tool.no_calls (tool.refusals.line fault) end calm
      (long_owed words asked most source.left taken is long) finishes)
      (read_in_part words asked most end source taken is
      (refusal_is_not_done fault (tool.refusals.line fault) end sink finishes))

  -- A source that is not read to its end ends the run.
  pub stopped_at_source :
      (words : List Word) (asked : A) (end : End F) (source : Reading) (sink : Writing) → IsSound tool
      → tool.Takes words asked
      → StopsReading tool.refusals (tool.limit asked) end source sink → IsRun tool words source sink end tool.no_calls
  stopped_at_source words asked end source sink sound taken stops =
      stopped_reading words asked (tool.limit asked) end source sink sound taken refl stops

  -- Words that are not taken, or a source that is not read to its end, end the run of a tool with one limit for all.
  pub stopped :
      (limit : Option ℕ) → ((asked : A) → tool.limit asked ≡ limit) → (words : List Word) (asked : Result A WordsStop)
      (end : End F) (source : Reading) (sink : Writing) → IsSound tool → IsAsked tool.Takes words asked
      → StopsOpening tool.refusals limit asked end source sink → IsRun tool words source sink end tool.no_calls
  stopped limit one words (Ok asked) end source sink sound taken stops =
      stopped_reading words asked limit end source sink sound taken (one asked) stops
  stopped limit one words (Err stop) end source sink sound none (unread, refuses) =
      refused_words words stop end source sink sound none unread refuses

  -- ---- an input that was read

  -- all of it, or nothing where there is no limit
  read_for :
      (words : List Word) (asked : A) (limit : Option ℕ) (items : List ℕ) (end : End F) (source : Reading) → IsSound tool
      → tool.Takes words asked → tool.limit asked ≡ limit → ReadsAll limit items source → IsReadFor tool words end source
  read_for words asked None items end source sound taken is (none, unread) = record {
    untouched = λ silent. unread;
    whole = λ other again reads done.
        let same = ap tool.limit (sound.one words asked other taken again) in
        absurd (not_both (tool.limit asked) reads.0 is (same ∙ reads.1));
  }
  read_for words asked (Some most) items end source sound taken is reads = record {
    untouched = λ silent. absurd (silent asked taken (most, is));
    whole = λ other again asks done. reads.ended;
  }

  -- what the work came to answers the run
  answered_work :
      (words : List Word) (asked : A) (items : List ℕ) (end : End F) (history : H) (source : Reading) (sink : Writing)
      → tool.Takes words asked → ReadsAll (tool.limit asked) items source → Works tool asked items end history sink
      → IsAnswered tool words source sink end history
  answered_work words asked items end history source sink taken reads (inl (same, none, nothing)) =
      subst (λ (e : End F). IsAnswered tool words source sink e history) (sym same)
      (no_read_failed (tool.limit asked) items source reads, none, nothing)
  answered_work words asked items end history source sink taken reads (inr (due, bytes, owed, finishes)) =
      let is = is_input (tool.limit asked) items source reads in
      answered tool words source sink due history bytes end (no_read_failed (tool.limit asked) items source reads)
      (owed_for_words tool words source.left items asked history due bytes taken is owed) finishes

  -- The work on the whole input ends the run.
  pub worked :
      (words : List Word) (asked : A) (items : List ℕ) (end : End F) (history : H) (source : Reading) (sink : Writing)
      → IsSound tool → tool.Takes words asked → ReadsAll (tool.limit asked) items source
      → Works tool asked items end history sink → IsRun tool words source sink end history
  worked words asked items end history source sink sound taken reads works =
      run_of tool words source sink end history sound (answered_work words asked items end history source sink taken reads works)
      (read_for words asked (tool.limit asked) items end source sound taken refl reads)

  -- The same with a sink that reading has left as it was.
  pub worked_with :
      {K : Type 0} (written : K → Option (List ℕ)) (faults : K → ℕ) (old mid new : K) (words : List Word) (asked : A)
      (items input : List ℕ) (end : End F) (history : H) (source : Reading) → IsSound tool → tool.Takes words asked
      → ReadsAll (tool.limit asked) items source → mid ≡ old → input ≡ items
      → Works tool asked input end history (writing written faults mid new)
      → IsRun tool words source (writing written faults old new) end history
  worked_with {K} written faults old mid new words asked items input end history source sound taken reads
      untouched same works =
      let of_items = subst (λ (i : List ℕ). Works tool asked i end history (writing written faults mid new)) same works in
      let from_old =
      subst (λ (k : K). Works tool asked items end history (writing written faults k new)) untouched
      of_items in
      worked words asked items end history source (writing written faults old new) sound taken reads from_old

  -- ---- work that calls nothing

  pub works_alone :
      (asked : A) (input : List ℕ) (end : End F) (sink : Writing)
      → FinishesOwed (IsOwedFor tool asked input tool.no_calls) end sink
      → Works tool asked input end tool.no_calls sink
  works_alone asked input end sink (inl (same, nothing)) = inl (same, refl, nothing)
  works_alone asked input end sink (inr finishes) = inr finishes

  -- The words were read and the source was opened, and the work was given what came of them, with a sink that was left as it
  -- was.
  pub worked_on :
      {K : Type 0} (written : K → Option (List ℕ)) (faults : K → ℕ) (old mid new : K) (words : List Word)
      (read : Result A WordsStop) (asked given : A) (items input : List ℕ) (end : End F) (source : Reading) → IsSound tool
      → IsAsked tool.Takes words read → read ≡ Ok asked → ReadsAll (tool.limit asked) items source → mid ≡ old
      → given ≡ asked
      → input ≡ items → FinishesOwed (IsOwedFor tool given input tool.no_calls) end (writing written faults mid new)
      → IsRun tool words source (writing written faults old new) end tool.no_calls
  worked_on {K} written faults old mid new words read asked given items input end source sound is same_read
      reads untouched same_asked same_bytes finishes =
      let taken : tool.Takes words asked = subst (λ (r : Result A WordsStop). IsAsked tool.Takes words r) same_read is in
      let works = works_alone given input end (writing written faults mid new) finishes in
      let of_asked =
      subst (λ (a : A). Works tool a input end tool.no_calls (writing written faults mid new)) same_asked
      works in
      worked_with written faults old mid new words asked items input end tool.no_calls source sound taken
      reads untouched same_bytes of_asked

-- A file that is no input of this tool was answered tool by its line, or memory was wanted.
pub refused :
    {A H : Type 0} (tool : Tool A H InputFault) (asked : A) (input : List ℕ) (stop : InputStop) (end : End InputFault)
    (sink : Writing) → tool.refusals ≡ file_refusals → IsWithin (tool.limit asked) input
    → ((fault : InputFault) → stop ≡ Fault fault → tool.Refuses asked input fault) → RefusesInput stop end sink
    → FinishesOwed (IsOwedFor tool asked input tool.no_calls) end sink
refused tool asked input (Fault fault) end sink same short refuses finishes =
    let line = ap (λ (r : Refusals InputFault). r.line fault) (sym same) in
    inr (BadInput fault, file_refusals.line fault, (inr (short, refuses fault refl), refl, line), finishes)
refused tool asked input NoInputRead end sink same short refuses finishes = inl finishes
