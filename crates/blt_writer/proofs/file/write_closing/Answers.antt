use Rattle.std.proofs.Common.{sym}
use Rattle.piece_text.proofs.Written.{later, stops}
use Rattle.blt_writer.proofs.file.write_closing.Goals as goal

pub returns-in_err-write_bytes : goal.returns-in_err-write_bytes
returns-in_err-write_bytes g c = stops _ _ c.from_residual.ensures.0 c.in_err-write_bytes.ensures

pub returns-in_err-write_names : goal.returns-in_err-write_names
returns-in_err-write_names g c =
    later _ _ _ c.in_ok-write_bytes.ensures
    (stops _ _ c.from_residual-in_err-write_names.ensures.0 c.in_err-write_names.ensures)

pub returns : goal.returns
returns g c =
    rw (sym c.title.ensures, sym c.bytes.ensures.value) (later _ _ _ c.in_ok-write_bytes.ensures
    (later _ _ _ c.in_ok-write_names.ensures c.write_quoted.ensures))
