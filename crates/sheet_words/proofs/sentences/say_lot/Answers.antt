use Rattle.sheet_words.proofs.Written.{later, stops}
use Rattle.sheet_words.proofs.sentences.say_lot.Goals as goal

pub returns-in_err-say_parts : goal.returns-in_err-say_parts
returns-in_err-say_parts g c = stops _ _ _ _ c.from_residual.ensures.0 c.in_err-say_parts.ensures

pub returns-in_err-say_called : goal.returns-in_err-say_called
returns-in_err-say_called g c =
    later _ _ _ _ _ c.in_ok-say_parts.ensures
    (stops _ _ _ _ c.from_residual-in_err-say_called.ensures.0 c.in_err-say_called.ensures)

pub returns : goal.returns
returns g c =
    later _ _ _ _ _ c.in_ok-say_parts.ensures (later _ _ _ _ _ c.in_ok-say_called.ensures c.say_parts-2.ensures)
