-- The first fault of a text that is read from its front, and what is read of it.
use Rattle.std.proofs.Common.{◌≡◌, ℕ, ◌≤◌, List, [], map, length, Option, Some, None, unwrap_or, ap, sym, ◌∙◌, subst}
use Rattle.std.specs.List.{sum_by, range_with_len}
use Rattle.std.specs.Option.{option_or}
use Rattle.std.proofs.lemmas.List.FromFn.{length-map-range_with_len}
use Rattle.plain_ballots.specs.Ballots.{plain}
use Rattle.plain_ballots.specs.declared.limits.TheConstants.{MOST_BALLOTS}
use Rattle.ballot_marks.specs.declared.choice.Treat.{Treat}
use Rattle.preflib_text.specs.declared.imported.Imported.{Imported}
use Rattle.preflib_text.specs.declared.pref_fault.PrefFault.{PrefFault}
use Rattle.preflib_text.specs.declared.pref_stop.PrefStop.{PrefStop}
use Rattle.preflib_text.specs.Asked.{Asked}
use Rattle.preflib_text.specs.Ballots.{ballots, metadata, entries_of, entries, order_lines}
use Rattle.preflib_text.specs.Faults.{first_of}
use Rattle.preflib_text.specs.Head.{candidates, voters}
use Rattle.preflib_text.specs.Heading.{front, AreBehind, heading_fault}
use Rattle.preflib_text.specs.Imported.{IsImported}
use Rattle.preflib_text.specs.Items.{order_of, count_of}
use Rattle.preflib_text.specs.Known.{Known, IsKnown, found}
use Rattle.preflib_text.specs.Lines.{lines}
use Rattle.preflib_text.specs.Reading.{Coming, AreAllRead, end_of}
use Rattle.preflib_text.specs.Refusals.{metadata_faults, behind_metadata, order_faults, total_fault, voters_fault, fault_of_text}
use Rattle.preflib_text.specs.Stops.{IsPrefStop}
use Rattle.preflib_text.specs.Tallies.{tally}
use Rattle.preflib_text.proofs.Options.{none_or}
use Rattle.preflib_text.proofs.WholeLemmas.{first_stop, later_stop, known_candidates, known_names, known_title}
use Rattle.preflib_text.proofs.WholeLemmas.{same_heading, same_voters_fault, same_end}
use Rattle.preflib_text.proofs.WithdrawnLemmas.{withdrawn_are, withdrawn_in}

abbrev start_of : List ℕ → Coming
start_of bytes = record { bytes = bytes; row = 1; rest = lines bytes }

-- the metadata were read without a fault
pub record IsHeadRead (asked : Asked) (start : Coming) (known : Known) (middle : Coming) : Type 0 where
  pub sound : first_of (metadata_faults asked (front start.rest)) ≡ None
  pub known_of : IsKnown (entries_of (front start.rest)) known
  pub behind : AreBehind start middle

module _ (asked : Asked) (bytes : List ℕ) where
  abbrev in_metadata : Option PrefFault
  in_metadata = first_of (metadata_faults asked (metadata bytes))

  abbrev in_orders : Option PrefFault
  in_orders = first_of (order_faults asked.equal (candidates (entries bytes)) (order_lines bytes))

  abbrev behind_whole : Option PrefFault
  behind_whole = option_or in_orders (total_fault bytes)

  pub in_front : (start : Coming) (stop : PrefStop) → start ≡ start_of bytes
      → IsPrefStop (first_of (metadata_faults asked (front start.rest))) stop → IsPrefStop (fault_of_text asked bytes) stop
  in_front start stop is wrong =
      first_stop in_metadata (option_or (behind_metadata asked bytes) behind_whole) stop
      (subst (λ (s : Coming). IsPrefStop (first_of (metadata_faults asked (front s.rest))) stop) is wrong)

  module _ (start middle : Coming) (known : Known) (is : start ≡ start_of bytes) (head : IsHeadRead asked start known middle)
    where
      read : IsHeadRead asked (start_of bytes) known middle
      read = subst (λ (s : Coming). IsHeadRead asked s known middle) is head

      same : heading_fault asked known middle ≡ behind_metadata asked bytes
      same = same_heading bytes middle read.behind asked known read.known_of

      pub in_heading : (fault : PrefFault) → heading_fault asked known middle ≡ Some fault → fault_of_text asked bytes ≡ Some fault
      in_heading fault wrong =
          ap (λ o. option_or o (option_or (behind_metadata asked bytes) behind_whole)) read.sound
          ∙ ap (λ o. option_or o behind_whole) (sym same ∙ wrong)

      module _ (n : ℕ) (sound : heading_fault asked known middle ≡ None) (some : known.candidates ≡ Some n) (equal : Treat)
          (chosen : equal ≡ asked.equal)
        where
          all : n ≡ candidates (entries bytes)
          all = known_candidates (entries bytes) known read.known_of n some

          same_orders : first_of (order_faults equal n middle.rest) ≡ in_orders
          same_orders =
              ap (λ e. first_of (order_faults e n middle.rest)) chosen
              ∙ ap (λ k. first_of (order_faults asked.equal k middle.rest)) all
              ∙ ap (λ ls. first_of (order_faults asked.equal (candidates (entries bytes)) ls)) read.behind.rest_is

          pub in_order : (stop : PrefStop) → IsPrefStop (first_of (order_faults equal n middle.rest)) stop
              → IsPrefStop (fault_of_text asked bytes) stop
          in_order stop wrong =
              later_stop in_metadata (option_or (behind_metadata asked bytes) behind_whole) stop read.sound
              (later_stop (behind_metadata asked bytes) behind_whole stop (sym same ∙ sound)
              (first_stop in_orders (total_fault bytes) stop
              (subst (λ (o : Option PrefFault). IsPrefStop o stop) same_orders wrong)))

          module _ (last : Coming) (total : ℕ) (whole : first_of (order_faults equal n middle.rest) ≡ None)
              (end : AreAllRead middle last) (few : total ≤ MOST_BALLOTS) (counts : total ≡ sum_by count_of middle.rest)
            where
              same_total : voters_fault known.voters total (end_of last) ≡ total_fault bytes
              same_total =
                  ap (λ o. voters_fault o total (end_of last)) read.known_of.voters_are
                  ∙ same_voters_fault (voters (entries bytes)) total (end_of last) few
                  ∙ ap (λ t. voters_fault (voters (entries bytes)) t (end_of last))
                  (counts ∙ ap (sum_by count_of) read.behind.rest_is)
                  ∙ ap (voters_fault (voters (entries bytes)) (sum_by count_of (order_lines bytes)))
                  (same_end bytes middle read.behind last end)

              pub in_total : (fault : PrefFault) → voters_fault known.voters total (end_of last) ≡ Some fault
                  → fault_of_text asked bytes ≡ Some fault
              in_total fault wrong =
                  ap (λ o. option_or o (option_or (behind_metadata asked bytes) behind_whole)) read.sound
                  ∙ ap (λ o. option_or o behind_whole) (sym same ∙ sound)
                  ∙ ap (λ o. option_or o (total_fault bytes)) (sym same_orders ∙ whole) ∙ sym same_total ∙ wrong

              pub in_nothing : voters_fault known.voters total (end_of last) ≡ None → fault_of_text asked bytes ≡ None
              in_nothing none =
                  none_or in_metadata _ read.sound
                  (none_or (behind_metadata asked bytes) _ (sym same ∙ sound)
                  (none_or in_orders (total_fault bytes) (sym same_orders ∙ whole) (sym same_total ∙ none)))

          -- what is read is what the text says
          pub text_read :
              (read_of : Imported)
              → read_of.names ≡ map (λ c. unwrap_or (found known.names c) []) (range_with_len 1 n)
              → read_of.title ≡ unwrap_or (option_or asked.title known.title) [] → read_of.ballots.candidates ≡ n
              → ballots equal (map order_of middle.rest) ≡ Some (plain read_of.ballots.lines)
              → read_of.tally ≡ tally equal (map order_of middle.rest) → IsImported asked bytes read_of
          text_read read_of named titled among counted tallied =
              let name_at : ℕ → List ℕ = λ c. unwrap_or (found known.names c) [] in record {
                names_are = named ∙ known_names (entries bytes) known read.known_of n all;
                title_is = titled ∙ known_title (entries bytes) known read.known_of asked;
                candidates = among ∙ sym (ap length named ∙ length-map-range_with_len name_at 1 n);
                ballots_are = ap (λ ls. ballots asked.equal (map order_of ls)) (sym read.behind.rest_is)
                    ∙ ap (λ e. ballots e (map order_of middle.rest)) (sym chosen) ∙ counted;
                tally_is = tallied ∙ ap (λ e. tally e (map order_of middle.rest)) chosen
                    ∙ ap (λ ls. tally asked.equal (map order_of ls)) read.behind.rest_is;
                withdrawn = withdrawn_in name_at read_of.names asked.withdrawn n named
                    (withdrawn_are asked known middle n sound some);
              }
