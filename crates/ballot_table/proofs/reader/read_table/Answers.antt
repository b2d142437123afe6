use Rattle.std.proofs.Common.{refl}
use Rattle.table_text.specs.Reading.{read_text}
use Rattle.ballot_table.proofs.TableLemmas.{imported_read, sound_read, stop_read}
use Rattle.ballot_table.proofs.reader.read_table.Goals as goal

pub returns-in-Ok-clause-imported : goal.returns-in-Ok-clause-imported
returns-in-Ok-clause-imported c =
    imported_read c.args.asked.now c.args.bytes.now c.in-Ok.separator c.in-Ok.ensures.byte
    (read_text c.in-Ok.separator c.args.bytes.now) refl c.read_separated.result c.read_separated.ensures

pub returns-in-Ok-clause-sound : goal.returns-in-Ok-clause-sound
returns-in-Ok-clause-sound c =
    sound_read c.args.asked.now c.args.bytes.now c.in-Ok.separator c.in-Ok.ensures.byte
    (read_text c.in-Ok.separator c.args.bytes.now) refl c.read_separated.result c.read_separated.ensures

pub returns-in-Ok-clause-stop : goal.returns-in-Ok-clause-stop
returns-in-Ok-clause-stop c =
    stop_read c.args.asked.now c.args.bytes.now c.in-Ok.separator c.in-Ok.ensures.byte
    (read_text c.in-Ok.separator c.args.bytes.now) refl c.read_separated.result c.read_separated.ensures
