use Rattle.std.proofs.Common.{arith}
use Rattle.sheet_reader.proofs.LineLemmas.{reads_on}
use Rattle.sheet_reader.proofs.list.read_list.Goals as goal

pub loop-p-preserved : goal.loop-p-preserved
loop-p-preserved c =
    record {
      so_far =
          reads_on _ c.args.text.now c.loop-p.p c.loop-p.marks c.read_mark-rest.new.marks c.loop-p.rest.now
          c.read_mark-rest.result.now c.requires.few
          (omega (arith, c.loop-p-test.true, c.len-p-end.ensures)) c.loop-p.invariant.so_far
          c.read_mark-rest.ensures;
    }
