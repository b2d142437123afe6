-- Lots that are no order of the candidates of a file that is accepted.
use Rattle.std.proofs.Common.{◌≡◌, ℕ, ◌+◌, List, length, refl, sym, subst, inl, inr, Err}
use Rattle.lot_order.specs.Lots.{IsLotsStop}
use Rattle.lot_order.specs.declared.lots_stop.LotsStop.{LotsStop}
use Rattle.lot_order.specs.declared.lots_stop.LotsStop.TheVariants.{NotAll, Twice, OutOfRange, NoMemory as NoLots}
use Rattle.input_text.specs.declared.input_stop.InputStop.{InputStop}
use Rattle.input_text.specs.declared.input_stop.InputStop.TheVariants.{Fault, NoMemory}
use Rattle.input_text.specs.Reads.{OnFault}
use Rattle.blt_reader.specs.Poll.{Poll}
use Rattle.tool_edge.specs.Contest.{SaysPoll, HasBadLots, lots_stop, ReadsContest, ReadsBehind}

module _ (lots input : List ℕ) where
  bad_lots :
      (poll : Poll) (why : LotsStop) → SaysPoll input poll → IsLotsStop (length poll.roll.names) lots why
      → OnFault (lots_stop (length lots) why) (HasBadLots lots input)
  bad_lots poll (NotAll c) file is = record {
    poll = poll;
    file = file;
    place = length lots + 1;
    lots_at = inr (inr (c, is, refl));
    fault_is = refl;
  }
  bad_lots poll (Twice place) file is =
      record { poll = poll; file = file; place = place; lots_at = inl is; fault_is = refl }
  bad_lots poll (OutOfRange place) file is =
      record { poll = poll; file = file; place = place; lots_at = inr (inl is); fault_is = refl }
  bad_lots poll NoLots file is = tt

  contest_refused : (stop : InputStop) → OnFault stop (HasBadLots lots input) → ReadsContest lots input (Err stop)
  contest_refused (Fault fault) bad = inr bad
  contest_refused NoMemory bad = tt

  behind_refused :
      (before : ℕ) (stop : InputStop) → OnFault stop (HasBadLots lots input) → ReadsBehind before lots input (Err stop)
  behind_refused before (Fault fault) bad = inr bad
  behind_refused before NoMemory bad = tt

  module _
      (poll : Poll) (stop : InputStop) (file : SaysPoll input poll)
      (bad : (why : LotsStop) × IsLotsStop (length poll.roll.names) lots why × (stop ≡ lots_stop (length lots) why)) where
    stop_is : OnFault stop (HasBadLots lots input)
    stop_is = subst (λ (s : InputStop). OnFault s (HasBadLots lots input)) (sym bad.2) (bad_lots poll bad.0 file bad.1)

    pub reads_bad_lots : ReadsContest lots input (Err stop)
    reads_bad_lots = contest_refused stop stop_is

    pub reads_bad_lots_behind : (before : ℕ) → ReadsBehind before lots input (Err stop)
    reads_bad_lots_behind before = behind_refused before stop stop_is
