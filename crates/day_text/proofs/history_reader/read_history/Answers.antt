use Rattle.std.proofs.Common.{ℕ, ◌+◌, length, refl, ap, arith}
use Rattle.day_text.proofs.Histories.{no_line, other_line, no_history, no_freeze, one_more_read, whole_read}
use Rattle.day_text.proofs.history_reader.read_history.Goals as goal

pub returns-in_default-read_entry : goal.returns-in_default-read_entry
returns-in_default-read_entry c =
    let cut = c.in-Some.ensures in
    no_history _ c.lines.history.items _ _ c.lines.invariant (ap (λ (k : ℕ). k + 1) c.len.ensures)
    (other_line _ _ _ _ cut.0 cut.1 c.in_default-read_entry.ensures)

pub returns-then-closes : goal.returns-then-closes
returns-then-closes c =
    let read = c.in-Some-read_entry.ensures in
    whole_read _ c.lines.history.items _ c.in-Some-read_entry.entry _ _ _ _ c.lines.invariant
    (ap (λ (k : ℕ). k + 1) c.len.ensures) c.in-Some.ensures.0 read.0 read.1 c.if-closes.ensures c.in-Ok.ensures.ok

pub returns-then-by_clerk : goal.returns-then-by_clerk
returns-then-by_clerk c =
    let read = c.in-Some-read_entry.ensures in
    no_freeze _ c.lines.history.items c.in-Some-read_entry.entry _ _ _ _ c.lines.invariant
    (ap (λ (k : ℕ). k + 1) c.len.ensures) c.in-Some.ensures.0 read.0 read.1 (omega (arith, c.if-by_clerk.true))
    c.if-closes.ensures

pub lines-preserved : goal.lines-preserved
lines-preserved c =
    let read = c.in-Some-read_entry.ensures in
    one_more_read _ c.lines.history.items _ c.in-Some-read_entry.entry _ _ _ _ c.lines.invariant
    (ap (λ (k : ℕ). k + 1) c.len.ensures) c.in-Some.ensures.0 read.0 read.1
    (λ zero. omega (arith, c.if-by_clerk.false, zero)) c.in-Ok.ensures.ok

pub returns : goal.returns
returns c =
    no_history _ c.lines.history.items _ (length c.lines.history.items + 1) c.lines.invariant refl
    (no_line _ _ c.in_default.ensures)
