use Rattle.std.proofs.Common.{◌≡◌, ◌-◌, List, length, set, get_or, arith, ap, sym, ◌∙◌}
use Rattle.vote_spread.specs.declared.branch.Branch.{Branch}
use Rattle.vote_spread.specs.Stem.{Stem, stems_of, closed_stem}
use Rattle.vote_spread.proofs.StemLemmas.{stems_of-close}
use Rattle.vote_spread.proofs.BranchLemmas.{length-stems}
use Rattle.vote_spread.proofs.branches.Branches.close.Goals as goal

pub returns : goal.returns
returns c =
    λ d.
    let tails = c.self.inside.tails.items in
    let list = c.self.inside.list.items in
    let at = c.args.at in
    let b = c.index-branch.result.now in
    let k = c.len.result - at in
    let closed : Branch → Branch =
    λ x. record {
      ballots = x.ballots;
      skip = k;
      tail = x.tail;
      depth = x.depth;
      candidate = x.candidate;
      length = x.length;
    } in
    let now : stems_of tails list ≡ c.args.self.now = c.self.view_is in
    let size : length list ≡ length c.args.self.now = sym (length-stems tails list) ∙ ap length now in
    let skip : k ≡ length c.args.self.now - at = omega (arith, c.len.ensures, c.self.inside.list.ok.0) in
    ap (λ (x : Branch). stems_of tails (set list at (closed x))) c.index-branch.ensures
    ∙ (stems_of-close tails list at k b d (omega (arith, c.requires))
    ∙ (ap (λ (l : List Stem). set l at (closed_stem (get_or l at d) k)) now
    ∙ ap (λ m. set c.args.self.now at (closed_stem (get_or c.args.self.now at d) m)) skip))
