use Rattle.std.proofs.Common.{ap}
use Rattle.std.specs.Prelude.{Err}
use Rattle.meek_words.specs.declared.words_stop.WordsStop.{WordsStop}
use Rattle.lot_draw.proofs.Owing.{asked-few, drawn, refused, owed_alike}
use Rattle.lot_draw.proofs.tool.draw_in_public.Goals as goal

pub write_draw-requires : goal.write_draw-requires
write_draw-requires g c = asked-few _ _ _ c.in-Ok.ensures.taken.says

pub returns-in-Ok : goal.returns-in-Ok
returns-in-Ok g c =
    drawn _ _ _ _ c.in-Ok.ensures.taken (owed_alike _ _ _ _ _ c.as_bytes.ensures.value c.write_draw.ensures)

pub returns-in-Err : goal.returns-in-Err
returns-in-Err g c =
    refused _ _ _ _ (λ same. c.in-Err.ensures.refused (ap (λ (stop : WordsStop). Err stop) same)) c.refuse_words.ensures
