use Rattle.std.proofs.Common.{ℕ, List, true, subst}
use Rattle.input_text.specs.Reads.{OnFault}
use Rattle.input_text.specs.Scan.{scan}
use Rattle.day_reader.specs.Said.{IsDayRefusal}
use Rattle.meek_cli.proofs.DayEnding.{refused_day}
use Rattle.meek_cli.proofs.day.play_day.Goals as goal

pub returns-in-Err : goal.returns-in-Err
returns-in-Err g c =
    refused_day c.args.input.items c.in-Err.stop c.refuse_input.result c.without_calls.result _ c.requires
    (subst (λ (i : List ℕ). OnFault c.in-Err.stop (IsDayRefusal (scan i true))) c.as_slice.ensures.value
    c.in-Err.ensures.refused)
    c.without_calls.ensures c.refuse_input.ensures
