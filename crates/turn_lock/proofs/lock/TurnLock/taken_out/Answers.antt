use Rattle.std.proofs.Common.{rules, ◌∷◌, Some, ap, sym, ◌∙◌}
use Rattle.atomic_table.specs.Table.{rest}
use Rattle.turn_lock.proofs.lock.TurnLock.taken_out.Goals as goal

pub exchange-requires : goal.exchange-requires
exchange-requires g c =
    let full = c.requires.full in
    (search rules, (Some full.0, full.1 ∙ ap (λ l. (0, Some full.0) ∷ rest l) (sym full.1)))
