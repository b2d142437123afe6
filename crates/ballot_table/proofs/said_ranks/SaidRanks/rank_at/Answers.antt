use Rattle.std.proofs.Common.{ℕ, List, Option, ap, sym, ◌∙◌}
use Rattle.std.specs.List.{slice_get}
use Rattle.std.specs.Option.{unwrap_or}
use Rattle.std.proofs.lemmas.Option.{slice_get-get_or}
use Rattle.ballot_table.specs.Said.{SaidList}
use Rattle.ballot_table.proofs.said_ranks.SaidRanks.rank_at.Goals as goal

pub returns-in-Some : goal.returns-in-Some
returns-in-Some c =
    let ranks = c.deref.result.now in
    let place = c.args.place in
    let found = c.in-Some.ensures.lookup.3 in
    found.1 0
    ∙ ap (λ (o : Option ℕ). unwrap_or o 0) (sym (slice_get-get_or ranks place 0 found.0))
    ∙ ap (λ (ranks : List ℕ). unwrap_or (slice_get ranks place) 0)
    (c.deref.ensures.value ∙ ap (λ (said : SaidList). said.ranks) c.self.view_is)
