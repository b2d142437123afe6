use Rattle.std.proofs.Common.{arith}
use Rattle.sheet_check.proofs.ShortFiles.{reads_short_file}
use Rattle.sheet_check.proofs.behind.read_file_behind.Goals as goal

pub returns : goal.returns
returns c =
    reads_short_file c.args.before c.args.lots.now c.args.file.now c.read_behind.result
    (omega (arith, c.if-file-gt-FILE_LIMIT.false)) c.read_behind.ensures
