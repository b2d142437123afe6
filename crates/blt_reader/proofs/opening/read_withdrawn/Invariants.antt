use Rattle.std.proofs.Common.{◌≡◌, ◌+◌, length}
use Rattle.std.specs.Prelude.{All}
use Rattle.input_text.specs.Range.{IsIn}
use Rattle.input_text.specs.Reads.{IsBehind, tokens_left}
use Rattle.blt_reader.specs.Opening.{Marks, IsWithdrawn}
use Rattle.blt_reader.proofs.opening.read_withdrawn.Given as goal

abbrev pub invariant-loop-named : goal.invariant-loop-named
invariant-loop-named l = record {
  so_far : IsWithdrawn l.candidates l.fn.tokens.rest l.withdrawn.items l.tokens.rest;
  each : All (IsIn l.candidates) l.withdrawn.items;
  marks : Marks l.named l.withdrawn.items;
  numbers : length l.named ≡ l.candidates + 1;
  behind : IsBehind l.fn.tokens l.tokens;
}

abbrev pub decreases-loop-named : goal.decreases-loop-named
decreases-loop-named l = tokens_left l.tokens
