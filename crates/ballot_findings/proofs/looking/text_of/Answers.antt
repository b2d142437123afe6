use Rattle.std.proofs.Common.{◌∙◌, ◌++◌}
use Rattle.ballot_findings.specs.Lines.{count_warnings, facts_text, name_warnings}
use Rattle.ballot_findings.specs.Looked.{figures_of}
use Rattle.ballot_findings.specs.Tally.{was_ranked}
use Rattle.ballot_findings.proofs.looking.text_of.Goals as goal

pub returns : goal.returns
returns c =
    let input = c.args.file.now.input in
    let roll = c.args.file.now.roll in
    let tally = c.args.looked.now.tally in
    let facts = c.in_ok-push_facts.ensures
    ∙ (λ i. c.new-text.ensures i ++ facts_text (c.roll.ensures i) (figures_of c.args.looked.now)) in
    let names = c.in_ok-push_name_warnings.ensures ∙ (λ i. facts i ++ name_warnings input roll) in
    c.in_ok-push_count_warnings.ensures
    ∙ (λ i. names i ++ count_warnings input roll (was_ranked tally) tally.of_withdrawn)
