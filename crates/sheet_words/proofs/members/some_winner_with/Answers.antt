use Rattle.std.proofs.Common.{◌∙◌, ap, sym, arith, length}
use Rattle.meek_rule.specs.Row.{Row}
use Rattle.sheet_words.specs.Groups.{wins_with}
use Rattle.sheet_words.proofs.Places.{any_yes, any_no, any_past}
use Rattle.sheet_words.proofs.members.some_winner_with.Goals as goal

pub loop-p-preserved : goal.loop-p-preserved
loop-p-preserved g c =
    let size = ap (λ (row : Row). length row.states) c.row.view_is in
    let test = wins_with c.args.row.now c.args.vote in
    sym (any_no test c.loop-p.p (length c.args.row.now.states) (omega (arith, size))
    (sym c.wins_with.ensures ∙ c.if-wins_with.false))
    ∙ c.loop-p.invariant

pub returns-then-wins_with : goal.returns-then-wins_with
returns-then-wins_with g c =
    let size = ap (λ (row : Row). length row.states) c.row.view_is in
    let test = wins_with c.args.row.now c.args.vote in
    sym (any_yes test c.loop-p.p (length c.args.row.now.states) (omega (arith, size))
    (sym c.wins_with.ensures ∙ c.if-wins_with.true))
    ∙ c.loop-p.invariant

pub returns : goal.returns
returns g c =
    let size = ap (λ (row : Row). length row.states) c.row.view_is in
    let test = wins_with c.args.row.now c.args.vote in
    sym (any_past test c.loop-p.p (length c.args.row.now.states) (omega (arith, size))) ∙ c.loop-p.invariant
