use Rattle.std.proofs.Common.{List, ℕ, [], ◌∷◌, ◌++◌, map, ◌-◌, unwrap_or, ap, ◌∙◌, arith}
use Rattle.std.specs.List.{range_with_len}
use Rattle.preflib_text.specs.Known.{Named, found}
use Rattle.preflib_text.proofs.RangeLemmas.{one_mapped}
use Rattle.preflib_text.proofs.head.Head.names.Goals as goal

abbrev name_in : List Named → ℕ → List ℕ
name_in names n = unwrap_or (found names n) []

pub loop-c-preserved : goal.loop-c-preserved
loop-c-preserved c = record {
  names_are = c.in_ok-push_name.ensures.ok
      ∙ ap (λ (ns : List (List ℕ)). ns ++ c.name_or_none.result.now ∷ []) c.loop-c.invariant.names_are
      ∙ ap (λ (name : List ℕ). map (name_in c.args.self.now.names) (range_with_len 1 (c.loop-c.c - 1)) ++ name ∷ [])
      c.name_or_none.ensures
      ∙ one_mapped (name_in c.args.self.now.names) c.loop-c.c (omega arith);
}
