use Rattle.std.proofs.Common.{◌≡◌, ℕ, ◌+◌, ◌-◌, ◌*◌, List, [], ◌++◌, sym, ap, ◌∙◌, append-nil, arith, rules}
use Rattle.meek_trial.specs.Draws.{Drawing}
use Rattle.meek_trial.specs.Trial.{batch, batches, draws_before, first}
use Rattle.meek_trial.proofs.Going.{batches_none, batches_go_on, drawing}
use Rattle.meek_trial.proofs.day.put_batches.Goals as goal

pub loop-k-init : goal.loop-k-init
loop-k-init c =
    let same : first c.args.number c.args.team ≡ first c.args.number c.args.team + 0 = omega arith in
    record {
      text =
          sym (append-nil c.args.text.now.items)
          ∙ ap (λ (t : List ℕ). c.args.text.now.items ++ t) (sym (batches_none c.args.number c.args.team));
      draws = c.requires.draws ∙ ap (λ (b : ℕ). drawing c.args.number (draws_before b)) same;
    }

pub loop-k-preserved : goal.loop-k-preserved
loop-k-preserved c =
    let number = c.args.number in
    let a = first number c.args.team in
    let k = c.loop-k.k in
    let on : a + k + 1 ≡ a + (k + 1) = omega arith in
    let same : c.loop-k.draws.number ≡ number = ap (λ (d : Drawing). d.number) c.loop-k.invariant.draws in
    let put : c.put_batch.new.text.items ≡ c.loop-k.text.items ++ batch number (a + k) =
    c.in_ok-put_batch.ensures.text ∙ ap (λ (n : ℕ). c.loop-k.text.items ++ batch n (a + k)) same in
    record {
      text =
          batches_go_on c.args.text.now.items c.loop-k.text.items c.put_batch.new.text.items number
          c.args.team k c.loop-k.invariant.text put;
      draws =
          c.in_ok-put_batch.ensures.draws
          ∙ (ap (λ (n : ℕ). drawing n (draws_before (a + k + 1))) same
          ∙ ap (λ (b : ℕ). drawing number (draws_before b)) on);
    }
