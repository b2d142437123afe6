use Rattle.std.proofs.Common.{◌≤◌, ap, sym, ◌∙◌, subst, arith, Err}
use Rattle.plain_ballots.specs.declared.limits.TheConstants.{MOST_CANDIDATES}
use Rattle.preflib_text.specs.Standing.{standing_fault, seen, IsPartStop}
use Rattle.preflib_text.proofs.ReadLemmas.{misplaced, goes_on}
use Rattle.preflib_text.proofs.order.Order.read.Goals as goal

pub returns-in-Err-Fault-clause-stop : goal.returns-in-Err-Fault-clause-stop
returns-in-Err-Fault-clause-stop c =
    let small : c.loop-kind.self.candidates ≤ MOST_CANDIDATES =
    omega (arith, c.loop-kind.invariant.candidates, c.clear.ensures.few) in
    c.loop-kind.invariant.so_far
    ∙ misplaced c.args.room c.loop-kind.self c.requires small c.args.bytes.now c.loop-kind.from
    c.part_from-found.result c.part_from-found.ensures.first c.in-Err-Fault.kind
    (subst (IsPartStop (standing_fault c.args.room c.loop-kind.self (seen c.part_from-found.result.part)))
    c.in-Err-Fault.field-0-is c.in-Err-Fault.ensures.stop)
    ∙ ap (λ k. Err (record { kind = k; at = c.part_from-found.result.at })) (sym c.in-Err-Fault.kind-is)

pub loop-kind-preserved : goal.loop-kind-preserved
loop-kind-preserved c =
    let small : c.loop-kind.self.candidates ≤ MOST_CANDIDATES =
    omega (arith, c.loop-kind.invariant.candidates, c.clear.ensures.few) in
    record {
      inside = c.part_from-found.ensures.inside;
      fresh = c.part_from-found.ensures.fresh;
      candidates = c.take.ensures.candidates ∙ c.loop-kind.invariant.candidates;
      so_far = c.loop-kind.invariant.so_far
          ∙ goes_on c.args.room c.loop-kind.self c.requires small c.args.bytes.now c.loop-kind.from
          c.part_from-found.result c.part_from-found.ensures.first c.take.new.self c.in-Ok.ensures.sound
          c.in-Ok.ensures.ok c.in_default.not-End;
    }
