use Rattle.std.proofs.Common.{◌∙◌, ◌++◌, ap}
use Rattle.ballot_findings.specs.Breaks.{place_warnings}
use Rattle.ballot_findings.specs.Lines.{text_of}
use Rattle.ballot_findings.specs.Looked.{figures_of}
use Rattle.ballot_findings.specs.Sites.{FileList}
use Rattle.ballot_findings.proofs.looking.whole_text.Goals as goal

pub returns : goal.returns
returns c =
    let said = ap (λ (f : FileList). text_of f.input f.roll (figures_of c.args.looked.now)) c.in_ok-file.ensures in
    c.in_ok-push_places.ensures
    ∙ (λ i. (c.in_ok-text.ensures ∙ said) i ++ place_warnings c.args.input.now (c.candidates.ensures.value i))
