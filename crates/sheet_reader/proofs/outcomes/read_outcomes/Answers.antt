use Rattle.std.proofs.Common.{ℕ, ◌+◌, List, length, sym, ◌∙◌, ap, subst, arith, length-append}
use Rattle.std.specs.Prelude.{All}
use Rattle.std.proofs.lemmas.List.{length-set}
use Rattle.std.proofs.lemmas.List.Elements.{All-push}
use Rattle.candidate_roll.specs.declared.limits.TheConstants.{MOST_NAME_BYTES}
use Rattle.candidate_roll.specs.Name.{IsName}
use Rattle.candidate_roll.specs.declared.state.State.{State}
use Rattle.sheet_reader.proofs.Places.{no_outcomes, outcome_more}
use Rattle.sheet_reader.proofs.WordLines.{stop_later}
use Rattle.sheet_reader.proofs.outcomes.read_outcomes.Goals as goal

pub returns-in-Err : goal.returns-in-Err
returns-in-Err c =
    stop_later _ (no_outcomes c.args.n c.loop-p.p _ _ _ _ c.loop-p-test.true c.loop-p.invariant.read)
    c.in-Err.ensures

pub loop-p-preserved : goal.loop-p-preserved
loop-p-preserved c = record {
  states =
      ap (λ (l : List State). length l) c.set.ensures
      ∙ length-set c.loop-p.states c.loop-p.p c.in-Ok-read_outcome.outcome.0 ∙ c.loop-p.invariant.states;
  names =
      ap (λ (l : List (List ℕ)). length l) c.in-Ok-push.ensures.ok ∙ length-append c.loop-p.names _
      ∙ ap (λ (k : ℕ). k + 1) c.loop-p.invariant.names;
  called =
      subst (λ (l : List (List ℕ)). All (IsName MOST_NAME_BYTES) l) (sym c.in-Ok-push.ensures.ok)
      (All-push (IsName MOST_NAME_BYTES) c.loop-p.names _ c.loop-p.invariant.called c.in-Ok-read_outcome.ensures.0);
  read =
      outcome_more c.loop-p.p c.loop-p.states c.loop-p.names _ _ _ _ _ _ _
      (omega (arith, c.loop-p-test.true, c.loop-p.invariant.states)) c.loop-p.invariant.names
      c.set.ensures c.in-Ok-push.ensures.ok c.loop-p.invariant.read c.in-Ok-read_outcome.ensures.1;
}
