use Rattle.day_page.proofs.Articles.{sheets_said, sheets_shown}
use Rattle.day_page.proofs.DayEnds.{ends_said}
use Rattle.day_page.proofs.DayWalks.{freezes_said, rows_said}
use Rattle.day_page.proofs.laws.pages_say_their_days.Goals as goal

pub returns : goal.returns
returns c = record { calls = rows_said; end = ends_said; freezes = freezes_said; sheets = sheets_said; shown = sheets_shown }
