use Rattle.std.proofs.Common.{◌≡◌, List, [], ◌∷◌, ◌++◌, length, arith, ap, ◌∙◌, subst}
use Rattle.frozen_plan.specs.declared.plan_row.PlanRow.{PlanRow}
use Rattle.packed_ballots.specs.Packed.{rests}
use Rattle.frozen_plan.specs.Groups.{AreNodesOf}
use Rattle.frozen_plan.proofs.GroupLemmas.{plan_of_lines, ballots_of_lines}
use Rattle.frozen_plan.proofs.plan.lines.rows_of_lines.Goals as goal

pub returns-clause-plan : goal.returns-clause-plan
returns-clause-plan c =
    let bytes = c.args.ranks.now in
    let lines = c.args.lines.now in
    let first : PlanRow = record { depth = 0; candidate = 0; ballots = 0; skip = 0 } in
    let now = c.push_group.new.rows.items in
    let root : c.push.new.self.items ≡ first ∷ [] =
    c.in_ok-push.ensures.items ∙ ap (λ (l : List PlanRow). l ++ first ∷ []) c.new-rows.ensures.items in
    let nodes =
    subst (λ (old : List PlanRow). AreNodesOf bytes 1 (rests bytes 0 lines) old now) root
    c.in_ok-ballots.ensures.nodes in
    let size : c.in_ok-skip.skip ≡ length now =
    omega (arith, c.in_ok-skip.ensures, c.push_group.new.rows.ok.0, c.len.ensures) in
    plan_of_lines c.args.candidates bytes lines now first c.in_ok-ballots.ballots c.in_ok-skip.skip nodes
    c.requires.candidates c.requires.sound.numbers c.requires.few c.in_ok-ballots.ensures.total size

pub returns-clause-ballots : goal.returns-clause-ballots
returns-clause-ballots c =
    let bytes = c.args.ranks.now in
    let lines = c.args.lines.now in
    let first : PlanRow = record { depth = 0; candidate = 0; ballots = 0; skip = 0 } in
    let now = c.push_group.new.rows.items in
    let root : c.push.new.self.items ≡ first ∷ [] =
    c.in_ok-push.ensures.items ∙ ap (λ (l : List PlanRow). l ++ first ∷ []) c.new-rows.ensures.items in
    let nodes =
    subst (λ (old : List PlanRow). AreNodesOf bytes 1 (rests bytes 0 lines) old now) root
    c.in_ok-ballots.ensures.nodes in
    let size : c.in_ok-skip.skip ≡ length now =
    omega (arith, c.in_ok-skip.ensures, c.push_group.new.rows.ok.0, c.len.ensures) in
    ballots_of_lines c.args.candidates bytes lines now first c.in_ok-ballots.ballots c.in_ok-skip.skip nodes
    c.requires.candidates c.requires.sound.numbers c.requires.few c.in_ok-ballots.ensures.total size
