use Rattle.blt_writer.proofs.OrderedEntries.{run_goes_on, run_ends}
use Rattle.std.proofs.Common.{sym, ◌∙◌, arith}
use Rattle.blt_writer.proofs.runs.run_of.Goals as goal

pub returns-then-not-is_tied : goal.returns-then-not-is_tied
returns-then-not-is_tied c =
    run_ends c.args.ranks.now c.args.entries.now c.loop-i.i c.entry_at-entry.result c.entry_at-first.result
    c.loop-i.invariant c.loop-i-test.true
    c.entry_at-entry.ensures c.entry_at-first.ensures c.requires.sound (omega arith)
    (sym c.is_tied.ensures ∙ c.if-not-is_tied.true)

pub loop-i-preserved : goal.loop-i-preserved
loop-i-preserved c =
    run_goes_on c.args.ranks.now c.args.entries.now c.loop-i.i c.entry_at-entry.result c.entry_at-first.result
    c.loop-i.invariant c.loop-i-test.true
    c.entry_at-entry.ensures c.entry_at-first.ensures (sym c.is_tied.ensures ∙ c.if-not-is_tied.false)
