use Rattle.std.proofs.Common.{rules, ◌≡◌, ◌∙◌, sym, ap, List, ℕ, ◌+◌, ◌-◌, ◌++◌, get_or, arith}
use Rattle.tally_cli.specs.Owed.{total_line, total_lines}
use Rattle.tally_cli.specs.Shown.{total}
use Rattle.tally_cli.proofs.TotalLines.{lines_more}
use Rattle.tally_cli.proofs.text.text_of.Goals as goal

pub loop-i-preserved : goal.loop-i-preserved
loop-i-preserved c =
    let line = c.bytes.ensures.value ∙ c.total_line-line.ensures in
    let here : c.loop-i.i ≡ c.loop-i.i + 1 - 1 = omega arith in
    let more : c.extend_from_slice.new.self.items ≡ c.loop-i.text.items ++ c.bytes.result.now = search rules in
    more
    ∙ (ap (λ (l : List ℕ). l ++ c.bytes.result.now) c.loop-i.invariant
    ∙ (ap (λ (l : List ℕ). total_lines c.loop-i.i (total c.args.totals.now) ++ l) line
    ∙ (ap (λ (k : ℕ). total_lines c.loop-i.i (total c.args.totals.now)
    ++ total_line (c.loop-i.i + 1) (get_or c.args.totals.now k 0)) here
    ∙ sym (lines_more c.loop-i.i (total c.args.totals.now)))))
