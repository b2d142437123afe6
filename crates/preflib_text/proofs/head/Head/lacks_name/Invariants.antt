use Rattle.std.proofs.Common.{◌≡◌, ◌-◌, false, is_none}
use Rattle.std.specs.List.{list_any, range_with_len}
use Rattle.preflib_text.specs.Known.{found}
use Rattle.preflib_text.proofs.head.Head.lacks_name.Given as goal

-- the candidates so far have names
abbrev pub invariant-loop-c : goal.invariant-loop-c
invariant-loop-c l = record {
  none : list_any (λ c. is_none (found l.self.names c)) (range_with_len 1 (l.c - 1)) ≡ false;
}
