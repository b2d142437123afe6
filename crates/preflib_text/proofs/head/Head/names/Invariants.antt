use Rattle.std.proofs.Common.{◌≡◌, ◌-◌, [], map, unwrap_or}
use Rattle.std.specs.List.{range_with_len}
use Rattle.preflib_text.specs.Known.{found}
use Rattle.preflib_text.proofs.head.Head.names.Given as goal

-- the names of the candidates so far
abbrev pub invariant-loop-c : goal.invariant-loop-c
invariant-loop-c l = record {
  names_are : l.names ≡ map (λ c. unwrap_or (found l.self.names c) []) (range_with_len 1 (l.c - 1));
}
