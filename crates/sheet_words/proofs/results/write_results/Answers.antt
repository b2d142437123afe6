use Rattle.piece_text.proofs.Written.{later, stops}
use Rattle.sheet_words.proofs.results.write_results.Goals as goal

pub returns-in_err-write_parts : goal.returns-in_err-write_parts
returns-in_err-write_parts g c = stops _ _ c.from_residual.ensures.0 c.in_err-write_parts.ensures

pub returns : goal.returns
returns g c = later _ _ _ c.in_ok-write_parts.ensures c.write_outcomes.ensures
