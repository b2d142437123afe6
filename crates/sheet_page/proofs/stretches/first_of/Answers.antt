use Rattle.std.proofs.Common.{◌∙◌, ap, ◌-◌, arith}
use Rattle.meek_rule.specs.Row.{Row}
use Rattle.sheet_page.proofs.RoundPlaces.{is_of, is_before, at_last, one_more, round_read, one_number, two_numbers}
use Rattle.sheet_page.proofs.stretches.first_of.Goals as goal

pub loop-i-init : goal.loop-i-init
loop-i-init g c = at_last c.args.rows.now c.args.last

pub loop-i-preserved : goal.loop-i-preserved
loop-i-preserved g c =
    let rows = c.args.rows.now in
    let last = c.args.last in
    let i = c.loop-i.i in
    let here = ap (λ (r : Row). r.round) c.row.view_is
    ∙ round_read rows (i - 1) c.index-rows-i.result c.index-rows-i.is (omega arith) in
    let end = ap (λ (r : Row). r.round) c.end.view_is
    ∙ round_read rows last c.index-rows-last.result c.index-rows-last.is c.requires in
    one_more rows last i (one_number rows (i - 1) last _ _ here end c.if-row-end.false) c.loop-i.invariant

pub returns-then-row-end-clause-of_it : goal.returns-then-row-end-clause-of_it
returns-then-row-end-clause-of_it g c =
    λ i low high. is_of c.args.rows.now c.args.last i high (λ k from to. c.loop-i.invariant k (omega arith) to)

pub returns-then-row-end-clause-before : goal.returns-then-row-end-clause-before
returns-then-row-end-clause-before g c =
    let rows = c.args.rows.now in
    let last = c.args.last in
    let j = c.loop-i.i - 1 in
    let here = ap (λ (r : Row). r.round) c.row.view_is
    ∙ round_read rows j c.index-rows-i.result c.index-rows-i.is (omega arith) in
    let end = ap (λ (r : Row). r.round) c.end.view_is
    ∙ round_read rows last c.index-rows-last.result c.index-rows-last.is c.requires in
    λ i below. is_before rows last i j (omega arith) (omega arith)
    (two_numbers rows j last _ _ here end c.if-row-end.true)

pub returns-clause-of_it : goal.returns-clause-of_it
returns-clause-of_it g c =
    λ i low high. is_of c.args.rows.now c.args.last i high (λ k from to. c.loop-i.invariant k (omega arith) to)
