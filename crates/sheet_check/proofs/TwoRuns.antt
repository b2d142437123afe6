-- Whole runs over a text and a file, from their parts.
use Rattle.std.proofs.Common.{◌≡◌, ℕ, List, refl, subst, inl, inr}
use Rattle.std.specs.Prelude.{Option, Result, Ok}
use Rattle.meek_words.specs.Numerals.{Word}
use Rattle.meek_words.specs.declared.words_stop.WordsStop.{WordsStop}
use Rattle.tool_edge.specs.declared.end.End.{End}
use Rattle.tool_edge.specs.Streams.{Reading, Writing, writing}
use Rattle.tool_edge.specs.Opening.{ReadsWhole}
use Rattle.tool_edge.specs.Words.{IsAsked}
use Rattle.tool_edge.specs.Finishing.{FinishesOwed}
use Rattle.tool_edge.specs.Tool.{IsOwedFor, IsSound, no_history}
use Rattle.tool_edge.proofs.Running.{stopped_at_source, worked_on}
use Rattle.sheet_check.specs.TwoInputs.{TextTool, over_file, IsRunOfTwo, StopsOpeningTwo}

module _ {A F : Type 0} (tool : TextTool A F) where
  -- The text or the file was not read to its end.
  pub stopped_two :
      (words : List Word) (asked : Result A WordsStop) (end : End F) (of_text of_file : Reading) (sink : Writing)
      → ((text : List ℕ) → IsSound (over_file tool text)) → IsAsked tool.Takes words asked
      → StopsOpeningTwo tool.refusals tool.text_limit tool.file_limit asked end of_text of_file sink
      → IsRunOfTwo tool words of_text of_file sink end
  stopped_two words asked end of_text of_file sink sound is (inl (stops, unread)) =
      inl (record { asked = asked; by_words = is; stops = stops; unread = unread })
  stopped_two words asked end of_text of_file sink sound is (inr (given, same, (text, whole, stops))) =
      let taken : tool.Takes words given = subst (λ (a : Result A WordsStop). IsAsked tool.Takes words a) same is in
      inr (record {
        asked = given;
        taken = taken;
        text = text;
        whole = whole;
        run = stopped_at_source (over_file tool text) words given end of_file sink (sound text) taken stops;
      })

  -- Both were read, and the work was done with a sink that was left as it was.
  pub worked_on_two :
      {K : Type 0} (written : K → Option (List ℕ)) (faults : K → ℕ) (old mid new : K) (words : List Word)
      (read : Result A WordsStop) (asked : A) (text file given_text given_file : List ℕ) (end : End F)
      (of_text of_file : Reading) → ((text : List ℕ) → IsSound (over_file tool text)) → IsAsked tool.Takes words read
      → read ≡ Ok asked → ReadsWhole tool.text_limit text of_text → ReadsWhole tool.file_limit file of_file → mid ≡ old
      → given_text ≡ text → given_file ≡ file
      → FinishesOwed (IsOwedFor (over_file tool given_text) asked given_file no_history) end
      (writing written faults mid new)
      → IsRunOfTwo tool words of_text of_file (writing written faults old new) end
  worked_on_two {K} written faults old mid new words read asked text file given_text given_file end of_text of_file
      sound is same_read reads_text reads_file untouched same_text same_file finishes =
      let taken : tool.Takes words asked = subst (λ (r : Result A WordsStop). IsAsked tool.Takes words r) same_read is in
      let of_whole =
      subst
      (λ (t : List ℕ). FinishesOwed (IsOwedFor (over_file tool t) asked given_file no_history) end
      (writing written faults mid new)) same_text finishes in
      inr (record {
        asked = asked;
        taken = taken;
        text = text;
        whole = reads_text;
        run =
            worked_on (over_file tool text) written faults old mid new words read asked asked file given_file end of_file
            (sound text) is same_read reads_file untouched refl same_file of_whole;
      })
