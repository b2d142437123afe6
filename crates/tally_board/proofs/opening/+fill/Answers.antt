use Rattle.std.proofs.Common.{rules, ◌≡◌, List, [], ◌∷◌, ◌++◌, ◌-◌, ◌<◌, ◌∙◌, replicate}
use Rattle.tally_board.specs.Sight.{Sight, new_sight}
use Rattle.tally_board.proofs.RuleLemmas.{if_ok_more, one_then_rest}
use Rattle.tally_board.proofs.opening.+fill.Goals as goal

pub returns-clause-list : goal.returns-clause-list
returns-clause-list t c =
    let was : List Sight =
    c.args.list.now in
    let s : Sight = new_sight c.args.scribe.now.board c.args.scribe.now.candidates in
    let some : 0 < c.args.count = search rules in
    let pushed : c.push.new.self ≡ was ++ s ∷ [] = search rules in
    let same : c.seat.new.scribe ≡ c.args.scribe.now = search rules in
    if_ok_more _ _ c.fill.result (λ e. e
    ∙ ((λ i. pushed i ++ replicate (c.args.count - 1) (new_sight (same i).board (same i).candidates))
    ∙ one_then_rest was s c.args.count some)) c.fill.ensures.list
