use Rattle.std.proofs.Common.{List, Option, map, take, subst}
use Rattle.ballot_marks.specs.declared.says.Says.{Says}
use Rattle.ballot_table.specs.Held.{says_held}
use Rattle.ballot_table.specs.Said.{IsSaying}
use Rattle.ballot_table.proofs.FreeLemmas.{free_says}
use Rattle.ballot_table.proofs.holders.say.Goals as goal

pub returns : goal.returns
returns c =
    let used = c.args.used in
    let held = c.args.held.now in
    subst (λ (says : List (Option Says)). IsSaying says c.push_blanks.new.self) (free_says used held c.requires.free)
    (c.in_ok-push_blanks.ensures (map says_held (take used held)) c.in_ok-say_each.ensures)
