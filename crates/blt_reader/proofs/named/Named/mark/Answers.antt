use Rattle.std.proofs.Common.{Bool, true, List, set, ◌∙◌, ap}
use Rattle.blt_reader.proofs.Stamps.{one_marked}
use Rattle.blt_reader.proofs.named.Named.mark.Goals as goal

pub returns-clause-after : goal.returns-clause-after
returns-clause-after c =
    one_marked c.self.inside.stamps.items c.self.inside.round c.args.number
    ∙ ap (λ (marks : List Bool). set marks c.args.number true) c.self.view_is
