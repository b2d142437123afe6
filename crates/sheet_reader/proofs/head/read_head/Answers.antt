use Rattle.std.proofs.Common.{ℕ, List, ◌∷◌, ◌++◌, sym, ◌∙◌, ap}
use Rattle.std.specs.Prelude.{codes}
use Rattle.sheet_reader.proofs.LineParts.{heads}
use Rattle.sheet_reader.proofs.ReadSheet.{no_head}
use Rattle.sheet_reader.proofs.WordLines.{stop_later}
use Rattle.sheet_reader.proofs.head.read_head.Goals as goal

pub returns-in-Err : goal.returns-in-Err
returns-in-Err c = stop_later _ (no_head c.args.lines.now) c.in-Err.ensures

pub returns-in-None : goal.returns-in-None
returns-in-None c title seats candidates ballots rest named fs fc small is =
    c.in-None.ensures seats candidates ballots rest fs fc small (heads _ _ _ _ (sym c.in-Ok.ensures.1 ∙ is)).1

pub returns-in-Some : goal.returns-in-Some
returns-in-Some c = (
  c.in-Ok.ensures.0,
  c.in-Some.ensures.0,
  c.in-Some.ensures.1,
  c.in-Some.ensures.2,
  c.in-Ok.ensures.1 ∙ ap (λ (ls : List (List ℕ)). (codes "title " ++ c.in-Ok.title) ∷ ls) c.in-Some.ensures.3,
)
