use Rattle.std.proofs.Common.{◌≡◌, ℕ, ◌+◌, List, [], ◌∷◌, ◌++◌, ap, ◌∙◌, arith}
use Rattle.meek_trial.specs.Draws.{candidate}
use Rattle.meek_trial.specs.Trial.{spaced}
use Rattle.meek_trial.proofs.Going.{ranking_goes_on}
use Rattle.meek_trial.proofs.ballots.push_ranking.Goals as goal

pub loop-j-preserved : goal.loop-j-preserved
loop-j-preserved c =
    let text : c.push_candidate.new.line ≡ c.loop-j.line ++ spaced (candidate c.args.x c.loop-j.j ∷ []) =
    c.push_candidate.ensures.text ∙ ap (λ (n : ℕ). c.loop-j.line ++ spaced (n ∷ [])) c.candidate.ensures.value in (
      ranking_goes_on c.args.line.now c.loop-j.line c.push_candidate.new.line c.args.x c.loop-j.j c.loop-j.invariant.0 text,
      (let l = c.push_candidate.ensures.bound in let m = c.loop-j.invariant.1 in omega arith),
    )
