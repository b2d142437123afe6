use Rattle.piece_text.proofs.Written.{later, stops}
use Rattle.sheet_words.proofs.end.write_end.Goals as goal

pub returns-in_err-write_ending : goal.returns-in_err-write_ending
returns-in_err-write_ending g c = stops _ _ c.from_residual.ensures.0 c.in_err-write_ending.ensures

pub returns : goal.returns
returns g c = later _ _ _ c.in_ok-write_ending.ensures c.write_all_late.ensures
