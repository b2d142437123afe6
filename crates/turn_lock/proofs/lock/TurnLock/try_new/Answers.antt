use Rattle.std.proofs.Common.{◌∷◌, [], ◌++◌, Some, ap, sym, ◌∙◌}
use Rattle.turn_lock.proofs.Opening.{opens_at}
use Rattle.turn_lock.proofs.lock.TurnLock.try_new.Goals as goal

pub new-requires : goal.new-requires
new-requires g c =
    opens_at g.T.Kept.entries g.T.Kept.owner g.T.Kept.name _ c.args.value _
    (c.in_default.ensures.items ∙ ap (λ l. l ++ Some c.args.value ∷ []) c.new-slots.ensures.items)
    c.requires
    (ap g.T.Kept.name (sym c.of-about.ensures))
