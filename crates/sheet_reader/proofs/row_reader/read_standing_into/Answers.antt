use Rattle.std.proofs.Common.{◌≡◌, ◌∙◌, ap, sym, ℕ, List, ◌∷◌}
use Rattle.std.specs.Prelude.{slice_set}
use Rattle.sheet_reader.specs.Cut.{standing_line}
use Rattle.sheet_reader.proofs.row_reader.read_standing_into.Goals as goal

pub returns-in_default-clause-read : goal.returns-in_default-clause-read
returns-in_default-clause-read g c s k v rest ks vs is = let none = c.in_default.ensures.0 in cc

pub returns-clause-read : goal.returns-clause-read
returns-clause-read g c =
    let standing = c.in-Some-read_standing.standing in
    record {
      state = standing.state;
      keep = standing.keep;
      vote = standing.vote;
      read = c.in-Some.ensures ∙ ap (λ (line : List ℕ). line ∷ c.next.new.self) c.in-Some-read_standing.ensures.sound.2;
      states_are = c.set.ensures;
      keeps_are = c.set-2.ensures ∙ ap (λ (k : ℕ). slice_set c.args.keeps.now c.args.p k) c.from_units.ensures;
      votes_are = c.set-3.ensures ∙ ap (λ (v : ℕ). slice_set c.args.votes.now c.args.p v) c.from_units-2.ensures;
    }

pub returns-in_default-read_standing-clause-read : goal.returns-in_default-read_standing-clause-read
returns-in_default-read_standing-clause-read g c s k v rest ks vs is =
    let lines = sym c.in-Some.ensures ∙ is in
    let line : c.in-Some.text.now ≡ standing_line g.row.P c.args.p s k v = cc in
    let read = c.in_default-read_standing.ensures.whole s k v ks vs line in
    let none = c.in_default-read_standing.is in cc
