use Rattle.std.proofs.Common.{subst}
use Rattle.fixed_place.specs.Rounding.{scale}
use Rattle.meek_count.specs.Progress.{Progress, HasRest}
use Rattle.meek_count.proofs.StepLemmas.{rest_exists}
use Rattle.meek_count.proofs.count.Count.roll.Goals as goal

pub returns-clause-rest : goal.returns-clause-rest
returns-clause-rest g c =
    subst (λ (count : Progress). HasRest g.D.Spread.rule (scale g.row.P) count) c.self.view_is
    (rest_exists g.D.Spread.rule g.row.P _ _ c.self.invariant.6)
