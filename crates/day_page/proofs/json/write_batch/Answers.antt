use Rattle.std.proofs.Common.{ap, ℕ, List, [], ◌∷◌}
use Rattle.std.specs.Prelude.{codes, decimal}
use Rattle.sheet_page.specs.Json.{joined}
use Rattle.sheet_page.proofs.Pens.{renamed}
use Rattle.day_page.proofs.json.write_batch.Goals as goal

pub returns : goal.returns
returns g c =
    let b = c.args.batch in
    let parts =
    λ (stands : List ℕ). joined (
    codes "{\"number\":" ∷ decimal b.number ∷ codes ",\"revision\":" ∷ decimal b.revision ∷ codes ",\"stands\":" ∷ stands
    ∷ codes "}" ∷ []
    ) in
    renamed (ap parts c.truth.ensures) c.write.ensures
