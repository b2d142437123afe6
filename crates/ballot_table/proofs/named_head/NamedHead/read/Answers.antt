use Rattle.std.proofs.Common.{Some, sym, ap, ◌∙◌}
use Rattle.std.specs.Option.{option_map}
use Rattle.ballot_table.specs.Asked.{asked_of}
use Rattle.ballot_table.specs.Head.{head_fault}
use Rattle.ballot_table.specs.Imported.{stop_at}
use Rattle.ballot_table.specs.Sheets.{row_at}
use Rattle.ballot_table.proofs.LeftLemmas.{is_stop}
use Rattle.ballot_table.proofs.named_head.NamedHead.read.Goals as goal

pub returns-in-Err-Fault-clause-stop : goal.returns-in-Err-Fault-clause-stop
returns-in-Err-Fault-clause-stop c =
    let faulty = rw c.in-Err-Fault.field-0-is at c.in-Err-Fault.ensures.stop in
    let row = row_at c.args.sheet.now c.args.place in
    is_stop (option_map (stop_at row) (head_fault (asked_of c.args.asked.now) c.args.texts.now)) c.stop_at.result
    (ap (option_map (stop_at row)) faulty ∙ ap Some (sym (rw c.in-Err-Fault.field-0-is at c.stop_at.ensures)))
