use Rattle.std.proofs.Common.{◌≡◌, ℕ, ◌+◌, length, take, drop, arith, ap, sym, ◌∙◌}
use Rattle.std.proofs.lemmas.Bool.{eqb-true}
use Rattle.std.proofs.lemmas.List.{take_all}
use Rattle.packed_ballots.proofs.Found.{slice_from, slice_up_to, stands_at}
use Rattle.packed_ballots.proofs.find.stand_at.Goals as goal

pub returns : goal.returns
returns c = λ ends.
    let ranks = c.args.ranks.now in
    let own = c.in-Some-get.own.now in
    let behind = c.in-Some.behind.now in
    let from = c.args.from in
    let n = length ranks in
    let at_end : c.loop-i.i ≡ n = omega (arith, c.loop-i-test.false, c.loop-i.auto.i-end) in
    let same : take n own ≡ ranks =
    ap (λ (k : ℕ). take k own) (sym at_end) ∙ (c.loop-i.invariant ∙ take_all c.loop-i.i ranks (omega (arith, at_end))) in
    let left : behind ≡ drop from c.args.bytes.now = slice_from c.args.bytes.now behind from c.in-Some.ensures.lookup.0.2 in
    stands_at (drop from c.args.bytes.now) own ranks
    (slice_up_to behind own (n + 1) c.in-Some-get.ensures.lookup.0.2 ∙ ap (take (n + 1)) left)
    (omega (arith, c.in-Some-get.ensures.lookup.0.3))
    same (eqb-true _ _ ends) c.requires
