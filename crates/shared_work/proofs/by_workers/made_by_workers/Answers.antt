use Rattle.std.proofs.Common.{None, Some, Any, subst, arith}
use Rattle.shared_work.proofs.Pieces.{of_ok}
use Rattle.shared_work.proofs.Places.{at_places, as_many, made_at}
use Rattle.shared_work.proofs.by_workers.made_by_workers.Goals as goal

pub done_by_workers-requires-clause-accepts : goal.done_by_workers-requires-clause-accepts
done_by_workers-requires-clause-accepts g c κs within =
    at_places _ c.args.places c.requires.accepts c.in-Ok.numbers.items c.in-Ok.ensures

pub returns-clause-as_many : goal.returns-clause-as_many
returns-clause-as_many g c =
    of_ok _ _ c.done_by_workers.result c.done_by_workers.ensures.done (λ made zip.
    let size = as_many (λ i x. g.F.Fn.post c.args.make.now (i, tt) (Some x)) c.args.places c.in-Ok.numbers.items made.items
    c.in-Ok.ensures zip in
    omega (arith, size, made.ok.0))

pub returns-clause-made : goal.returns-clause-made
returns-clause-made g c =
    of_ok _ _ c.done_by_workers.result c.done_by_workers.ensures.done (λ made zip.
    made_at (λ i x. g.F.Fn.post c.args.make.now (i, tt) (Some x)) c.args.places c.in-Ok.numbers.items made.items
    c.in-Ok.ensures zip)

pub returns-clause-nothing : goal.returns-clause-nothing
returns-clause-nothing g c is =
    subst (Any (λ i. g.F.Fn.post c.args.make.now (i, tt) None)) c.in-Ok.ensures (c.done_by_workers.ensures.nothing is)
