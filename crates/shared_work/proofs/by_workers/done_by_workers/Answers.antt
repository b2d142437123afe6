use Rattle.std.proofs.Common.{arith}
use Rattle.shared_work.proofs.Pieces.{all_wait, all_of, nothing_of, of_ok}
use Rattle.shared_work.proofs.by_workers.done_by_workers.Goals as goal

pub serve_each-requires-clause-accepts : goal.serve_each-requires-clause-accepts
serve_each-requires-clause-accepts g c κs within =
    all_wait _ c.args.work.items c.in_ok-slots.slots.items c.as_mut_slice.result.now c.in_ok-slots.ensures.waiting
    c.as_mut_slice.ensures.value c.requires.accepts

pub returns-clause-done : goal.returns-clause-done
returns-clause-done g c =
    let slots = c.in_ok-slots.slots in
    of_ok _ _ c.all_done.result c.all_done.ensures.done (λ done left.
    all_of (λ piece came. g.F.Fn.post c.args.each.now (piece, tt) came) c.args.work.items slots.items
    c.as_mut_slice.result.now c.serve_each.new.slots slots.len done.items c.in_ok-slots.ensures.waiting
    c.as_mut_slice.ensures.value c.serve_each.ensures.as_many (omega (arith, slots.ok.0)) left
    c.serve_each.ensures.done)

pub returns-clause-nothing : goal.returns-clause-nothing
returns-clause-nothing g c is =
    let slots = c.in_ok-slots.slots in
    nothing_of (λ piece came. g.F.Fn.post c.args.each.now (piece, tt) came) c.args.work.items slots.items
    c.as_mut_slice.result.now c.serve_each.new.slots slots.len c.in_ok-slots.ensures.waiting
    c.as_mut_slice.ensures.value c.serve_each.ensures.as_many (omega (arith, slots.ok.0)) (c.all_done.ensures.nothing is)
    c.serve_each.ensures.done
