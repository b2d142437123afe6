use Rattle.std.proofs.Common.{sym, ◌∙◌, is_none, arith}
use Rattle.preflib_text.specs.Known.{found}
use Rattle.preflib_text.proofs.RangeLemmas.{one_passes, none_passes}
use Rattle.preflib_text.proofs.head.Head.lacks_name.Goals as goal

pub returns-then-lacks : goal.returns-then-lacks
returns-then-lacks c =
    sym (one_passes (λ n. is_none (found c.args.self.now.names n)) c.args.candidates c.loop-c.c (omega arith) (omega arith)
    (sym c.lacks.ensures ∙ c.if-lacks.true))

pub loop-c-preserved : goal.loop-c-preserved
loop-c-preserved c = record {
  none = none_passes (λ n. is_none (found c.args.self.now.names n)) c.loop-c.c (omega arith) c.loop-c.invariant.none
      (sym c.lacks.ensures ∙ c.if-lacks.false);
}
