use Rattle.piece_text.proofs.Written.{later, stops}
use Rattle.sheet_words.proofs.decisions.write_two.Goals as goal

pub returns-in_err-write_decision : goal.returns-in_err-write_decision
returns-in_err-write_decision g c = stops _ _ c.from_residual.ensures.0 c.in_err-write_decision.ensures

pub returns : goal.returns
returns g c = later _ _ _ c.in_ok-write_decision.ensures c.write_one.ensures
