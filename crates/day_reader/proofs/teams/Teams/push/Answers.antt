use Rattle.std.proofs.Common.{◌≡◌, List, false, sym, ◌∙◌, ap, subst}
use Rattle.day_reader.specs.declared.script.Script.{Script}
use Rattle.day_reader.specs.Call.{freezes}
use Rattle.day_reader.specs.Day.{AreDifferent}
use Rattle.day_reader.specs.TeamTable.{stands, and_team}
use Rattle.day_reader.specs.Reads.{team_numbers}
use Rattle.day_reader.proofs.TeamLists.{numbers_push}
use Rattle.day_reader.proofs.teams.Teams.push.Goals as goal

pub invariant_of-self : goal.invariant_of-self
invariant_of-self c =
    let script = c.args.script in
    let free : stands c.self.inside.scripts script.team ≡ false =
    ap (λ (l : List Script). stands l script.team) c.self.view_is ∙ c.requires.new in (
      subst (λ (l : List Script). AreDifferent 16 (team_numbers l)) (sym c.in-Ok.ensures.ok)
          (numbers_push c.self.inside.scripts script c.self.invariant.0 c.requires.number free),
      c.requires.counted ∙ ap (λ (l : List Script). freezes (and_team l script)) (sym c.self.view_is)
          ∙ ap freezes (sym c.in-Ok.ensures.ok),
    )
