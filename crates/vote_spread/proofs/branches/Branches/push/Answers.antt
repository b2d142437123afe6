use Rattle.std.proofs.Common.{ℕ, ◌+◌, ◌≤◌, ◌++◌, ◌∷◌, [], List, length, map, arith, ap, sym, subst, ◌∙◌}
use Rattle.std.proofs.lemmas.List.{length-append, length-map}
use Rattle.std.proofs.lemmas.List.Elements.{All-push}
use Rattle.frozen_plan.specs.declared.plan_row.PlanRow.{PlanRow}
use Rattle.vote_spread.specs.declared.branch.Branch.{Branch}
use Rattle.vote_spread.specs.Stem.{Stem, stems_of, stem_of_row}
use Rattle.vote_spread.specs.Walk.{ArePacked}
use Rattle.vote_spread.proofs.StemLemmas.{stems_of-push}
use Rattle.vote_spread.proofs.branches.Branches.push.Goals as goal

pub returns : goal.returns
returns c =
    let row = c.args.row in
    let rows = c.args.tail.now in
    let tails = c.self.inside.tails.items in
    let list = c.self.inside.list.items in
    let ranks = map (λ (r : PlanRow). r.candidate) rows in
    let b : Branch =
    record {
      ballots = row.ballots;
      skip = 1;
      tail = c.len-2.result;
      depth = c.args.depth;
      candidate = row.candidate;
      length = length rows;
    } in
    ap (λ (l : List Branch). stems_of c.push_tail.new.tails.items l) c.in_ok-push.ensures.items
    ∙ (ap (λ (t : List ℕ). stems_of t (list ++ b ∷ [])) c.in_ok-push_tail.ensures.ok
    ∙ (stems_of-push tails ranks list b c.self.invariant.tails
    (omega (arith, c.len-2.ensures, c.self.inside.tails.ok.0))
    (sym (length-map rows (λ (r : PlanRow). r.candidate)))
    ∙ ap (λ (l : List Stem). l ++ stem_of_row c.args.depth row rows ∷ []) c.self.view_is))

-- more tails may lie there
with_more : (n m : ℕ) (list : List Branch) → ArePacked n list → n ≤ m → ArePacked m list
with_more n m list packed more = record {
  tails = λ k d lt. omega (arith, packed.tails k d lt);
  few = packed.few;
}

pub invariant_of-self : goal.invariant_of-self
invariant_of-self c =
    with_more (length c.self.inside.tails.items) _ c.self.inside.list.items c.self.invariant c.push_tail.ensures.more

pub invariant_of-self-in_err-push : goal.invariant_of-self-in_err-push
invariant_of-self-in_err-push c =
    let now = length c.push_tail.new.tails.items in
    subst (ArePacked now) (sym c.in_err-push.ensures.items)
    (with_more (length c.self.inside.tails.items) now c.self.inside.list.items c.self.invariant c.push_tail.ensures.more)

pub invariant_of-self-2 : goal.invariant_of-self-2
invariant_of-self-2 c =
    let rows = c.args.tail.now in
    let tails = c.self.inside.tails.items in
    let list = c.self.inside.list.items in
    let ranks = map (λ (r : PlanRow). r.candidate) rows in
    let now = length c.push_tail.new.tails.items in
    let b : Branch =
    record {
      ballots = c.args.row.ballots;
      skip = 1;
      tail = c.len-2.result;
      depth = c.args.depth;
      candidate = c.args.row.candidate;
      length = length rows;
    } in
    let had = with_more (length tails) now list c.self.invariant c.push_tail.ensures.more in
    subst (ArePacked now) (sym c.in_ok-push.ensures.items)
    (record {
      tails =
          All-push (λ (branch : Branch). branch.tail + branch.length ≤ now) list b had.tails
          (omega (
            arith,
            ap length c.in_ok-push_tail.ensures.ok,
            length-append tails ranks,
            length-map rows (λ (r : PlanRow). r.candidate),
            c.len-2.ensures,
            c.self.inside.tails.ok.0,
          ));
      few = omega (arith, length-append list (b ∷ []), c.len.ensures, c.self.inside.list.ok.0);
    })
