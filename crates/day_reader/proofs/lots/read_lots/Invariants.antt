use Rattle.std.proofs.Common.{◌≡◌, ℕ, ◌-◌, ◌≤◌, ◌==◌, [], length}
use Rattle.std.specs.List.{list_any}
use Rattle.lot_order.specs.Flags.{mark_at}
use Rattle.input_text.specs.Judged.{reads}
use Rattle.input_text.specs.Reads.{IsBehind, tokens_left}
use Rattle.day_reader.specs.Day.{AreDifferent}
use Rattle.day_reader.specs.DayTable.{at_lot}
use Rattle.day_reader.proofs.lots.read_lots.Given as goal

abbrev pub invariant-loop-order : goal.invariant-loop-order
invariant-loop-order l = record {
  same : reads (at_lot l.candidates) [] l.fn.tokens.rest ≡ reads (at_lot l.candidates) l.order.items l.tokens.rest;
  numbers : AreDifferent l.candidates l.order.items;
  flags : length l.stood ≡ l.candidates;
  marks : (c : ℕ) → 1 ≤ c → c ≤ l.candidates → mark_at l.stood (c - 1) ≡ list_any (λ d. d == c) l.order.items;
  behind : IsBehind l.fn.tokens l.tokens;
}

abbrev pub decreases-loop-order : goal.decreases-loop-order
decreases-loop-order l = tokens_left l.tokens
