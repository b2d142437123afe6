use Rattle.std.proofs.Common.{ℕ, ◌+◌, ◌-◌, ◌++◌, get_or, sym, ap, ◌∙◌, arith}
use Rattle.std.specs.Prelude.{None}
use Rattle.day_text.specs.End.{if_any}
use Rattle.day_text.proofs.Endings.{ends_more, all_ends, get_any}
use Rattle.day_text.proofs.ending.Ending.finish.Goals as goal

pub loop-at-preserved : goal.loop-at-preserved
loop-at-preserved c book follows =
    let at = c.loop-at.at in
    let there = follows.batches (at + 1) (omega arith) (omega (arith, c.loop-at-test.true)) in
    let here =
    c.index.ensures
    ∙ (get_any c.args.self.table.items at c.index.result.now None (omega (arith, c.loop-at-test.true, c.requires.long))
    ∙ (ap (λ (k : ℕ). get_or c.args.self.table.items k None) {x = at} {y = at + 1 - 1} (omega arith) ∙ there)) in
    c.in_ok-push_any.ensures
    ∙ ((λ i. c.loop-at.invariant book follows i ++ if_any (here i)) ∙ sym (ends_more book at))

pub returns : goal.returns
returns c book follows =
    all_ends book _ c.args.self.struck.items c.loop-at.at (c.loop-at.invariant book follows)
    (let t = c.loop-at-test.false in let a = c.loop-at.auto.at-end in omega (arith, t, a)) follows.struck_are
