use Rattle.piece_text.proofs.Written.{later, stops}
use Rattle.sheet_words.proofs.saying.write_parts.Goals as goal

pub returns-in_err-begin : goal.returns-in_err-begin
returns-in_err-begin g c = stops _ _ c.from_residual.ensures.0 c.in_err-begin.ensures

pub returns-in_err-say_parts : goal.returns-in_err-say_parts
returns-in_err-say_parts g c =
    later _ _ _ c.in_ok-begin.ensures (stops _ _ c.from_residual-in_err-say_parts.ensures.0 c.in_err-say_parts.ensures)

pub returns : goal.returns
returns g c = later _ _ _ c.in_ok-begin.ensures (later _ _ _ c.in_ok-say_parts.ensures c.end.ensures)
