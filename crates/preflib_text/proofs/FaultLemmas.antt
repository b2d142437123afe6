-- Where a text has no fault.
use Rattle.std.proofs.Common.{◌≡◌, ℕ, List, map, Option, None, ap, sym, ◌∙◌}
use Rattle.std.specs.Option.{option_or}
use Rattle.preflib_text.specs.declared.pref_fault.PrefFault.{PrefFault}
use Rattle.preflib_text.specs.Asked.{Asked}
use Rattle.preflib_text.specs.Ballots.{with_room, metadata, order_lines, entries, ballots}
use Rattle.preflib_text.specs.Faults.{Line, first_of}
use Rattle.preflib_text.specs.Head.{candidates}
use Rattle.preflib_text.specs.Items.{order_of}
use Rattle.preflib_text.specs.Laws.{SaysBallots}
use Rattle.preflib_text.specs.Refusals.{metadata_faults, behind_metadata, order_faults, total_fault, fault_of_text}
use Rattle.preflib_text.proofs.Options.{or_none, none_or, first_none, none_first}
use Rattle.preflib_text.proofs.OrderLemmas.{lines_beside, sound_orders, whole_orders}

-- the orders of lines with the room that each has
orders_with_room : (ls : List Line) → map (λ (r : ℕ × Line). order_of r.1) (with_room ls) ≡ map order_of ls
orders_with_room ls = lines_beside _ order_of 0 ls

module _ (asked : Asked) (bytes : List ℕ) where
  abbrev in_metadata : Option PrefFault
  in_metadata = first_of (metadata_faults asked (metadata bytes))

  abbrev in_orders : Option PrefFault
  in_orders = first_of (order_faults asked.equal (candidates (entries bytes)) (order_lines bytes))

  pub no_fault_says_ballots : fault_of_text asked bytes ≡ None
      → (rankings : List (List ℕ)) × SaysBallots asked bytes rankings
  no_fault_says_ballots is =
      let behind = option_or in_orders (total_fault bytes) in
      let front = or_none in_metadata (option_or (behind_metadata asked bytes) behind) is in
      let middle = or_none (behind_metadata asked bytes) behind front.1 in
      let back = or_none in_orders (total_fault bytes) middle.1 in
      let sound =
      sound_orders asked.equal (candidates (entries bytes)) (with_room (order_lines bytes)) (first_none _ back.0) in (
        sound.1.0,
        record {
          metadata_sound = first_none _ front.0;
          whole_sound = middle.0;
          orders_sound = sound.0;
          total_sound = back.1;
          ranked = ap (ballots asked.equal) (sym (orders_with_room (order_lines bytes))) ∙ sound.1.1;
        },
      )

  pub ballots_have_no_fault : (rankings : List (List ℕ)) → SaysBallots asked bytes rankings
      → fault_of_text asked bytes ≡ None
  ballots_have_no_fault rankings says =
      let whole =
      whole_orders asked.equal (candidates (entries bytes)) (with_room (order_lines bytes)) rankings says.orders_sound
      (ap (ballots asked.equal) (orders_with_room (order_lines bytes)) ∙ says.ranked) in
      none_or in_metadata _ (none_first _ says.metadata_sound)
      (none_or (behind_metadata asked bytes) _ says.whole_sound
      (none_or in_orders (total_fault bytes) (none_first _ whole) says.total_sound))
