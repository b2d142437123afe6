use Rattle.std.proofs.Common.{◌+◌, Bool, sym, subst, ◌∙◌, Some}
use mir.Val.{bool_byte}
use Rattle.vote_spread.specs.Rows.{seen, Leaves}
use Rattle.vote_spread.proofs.PutLemmas.{is_put, put_continues, put_leaves}
use Rattle.vote_spread.proofs.condense.put.Goals as goal

pub returns-then-leaves_some-clause-continues : goal.returns-then-leaves_some-clause-continues
returns-then-leaves_some-clause-continues c =
    put_continues _ c.args.classes.now c.args.at c.args.candidate c.args.ballots c.args.rows.now.items
    c.push_where.new.rows.items
    (is_put c.args.classes.now c.args.at c.args.candidate c.args.ballots c.args.rows.now.items
    c.push_where.new.rows.items _ c.keeps_some-stands.result c.requires.depth c.requires.candidate.0
    c.requires.candidate.1 c.keeps_some-stands.ensures c.push_where.ensures.pushed
    c.push_where.ensures.left_out)

pub returns-then-leaves_some-clause-leaves : goal.returns-then-leaves_some-clause-leaves
returns-then-leaves_some-clause-leaves c =
    subst (λ (b : Bool). Leaves c.args.classes.now c.args.at c.args.candidate (seen c.args.rows.now.items)
    (seen c.push_where.new.rows.items) (Some (c.args.at + bool_byte b)))
    (sym c.keeps_some-stands.ensures)
    (put_leaves _ c.args.classes.now c.args.at c.args.candidate c.args.ballots c.args.rows.now.items
    c.push_where.new.rows.items
    (is_put c.args.classes.now c.args.at c.args.candidate c.args.ballots c.args.rows.now.items
    c.push_where.new.rows.items _ c.keeps_some-stands.result c.requires.depth c.requires.candidate.0
    c.requires.candidate.1 c.keeps_some-stands.ensures c.push_where.ensures.pushed
    c.push_where.ensures.left_out) (sym c.leaves_some.ensures ∙ c.if-leaves_some.true))

pub returns-else-leaves_some-clause-continues : goal.returns-else-leaves_some-clause-continues
returns-else-leaves_some-clause-continues c =
    put_continues _ c.args.classes.now c.args.at c.args.candidate c.args.ballots c.args.rows.now.items
    c.push_where.new.rows.items
    (is_put c.args.classes.now c.args.at c.args.candidate c.args.ballots c.args.rows.now.items
    c.push_where.new.rows.items _ c.keeps_some-stands.result c.requires.depth c.requires.candidate.0
    c.requires.candidate.1 c.keeps_some-stands.ensures c.push_where.ensures.pushed
    c.push_where.ensures.left_out)
